-- The cheapest neighbours that a pass has met, and the better of these and others.
use Rattle.std.specs.Prelude.{ℕ, cond, false, ◌≡◌, eqb}
use Rattle.rule.specs.Numbers.{word}
use Rattle.rule.specs.Table.{Choice, ahead, nothing, pair}
use Rattle.scan.specs.declared.Best.{Best}

-- none yet
abbrev pub unmet : Best
unmet = record { place = 0; cost = word; ticks = 0 }

-- those that were met, unless others are cheaper
unfoldable pub better : Best → Choice → Best
better b nothing = b
better b (pair i s w) = cond (ahead b.cost b.ticks s w) b (record { place = i; cost = s; ticks = w })

-- ticks play a part in edition 2 alone
abbrev pub Light : ℕ → Best → Type 0
Light e b = eqb e 2 ≡ false → b.ticks ≡ 0
