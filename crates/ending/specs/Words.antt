-- What is said of a run that is not whole, behind the program's name.
use Rattle.std.specs.Prelude.{ℕ, List, codes}
use Rattle.ending.specs.declared.Failure.{Failure}
use Rattle.ending.specs.declared.Failure.TheVariants.{Unread, Unwritten, Refused}

abbrev pub said : Failure → List ℕ
said Unread = codes "the input cannot be read"
said Unwritten = codes "the output cannot be written"
said Refused = codes "the input is refused"
