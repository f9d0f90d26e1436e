-- `record::read` meets its contract: each field is what its four bytes say.
use mir.Syntax.{w32}
use Rattle.rule.proofs.Signed.{read}
use Rattle.rule.specs.Bytes.{record_at}
use Rattle.record.proofs.read.Goals as goal

pub returns : goal.returns
unfolding record_at
returns c =
    rw (
      read w32 c.reading-2.result c.reading-2.type_inv,
      c.reading-2.ensures,
      c.word-4.ensures,
      read w32 c.reading.result c.reading.type_inv,
      c.reading.ensures,
      c.word-3.ensures,
      c.word-2.ensures,
      c.word.ensures,
    )
