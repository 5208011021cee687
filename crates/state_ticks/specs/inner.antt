-- The vocabulary of inner contracts: nothing of document 01 stands here.
pub mod Runnable
