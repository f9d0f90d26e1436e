-- `words::word` meets its contract.
use Rattle.rule.specs.Bytes.{word_at}
use Rattle.words.proofs.word.Goals as goal

pub returns : goal.returns
unfolding word_at
returns c = c.from_le_bytes.ensures
