pub mod FedWords
