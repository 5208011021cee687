-- What is printed behind a card's name.
use Rattle.std.specs.Prelude.{ℕ, Bool, true, false, List}
use Rattle.text.specs.Ascii.{ascii}

abbrev pub verdict_of : Bool → List ℕ
verdict_of true = ascii "right\n"
verdict_of false = ascii "wrong\n"
