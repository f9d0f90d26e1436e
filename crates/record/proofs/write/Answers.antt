-- `record::write` meets its contract: four words stored one behind the other are the record.
use mir.Syntax.{w32}
use Rattle.rule.proofs.Signed.{read}
use Rattle.storage.proofs.RoundTrip.{put_words}
use Rattle.record.proofs.write.Goals as goal

pub returns : goal.returns
returns c =
    let b = c.args.b in
    rw (
      c.put_word-4.ensures,
      c.bits-2.ensures,
      read w32 b.largest c.struct_told-2-1.given.1.1.1.0.1,
      c.put_word-3.ensures,
      c.bits.ensures,
      read w32 b.least c.struct_told-1.given.1.1.0.1,
      c.put_word-2.ensures,
      c.put_word.ensures,
    )
    (put_words c.args.out.now c.args.at b c.requires)
