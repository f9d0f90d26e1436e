-- `legible::caption_good` meets its contract.
use Prim.Native.Nat.{ℕ}
use mathlib.Core.Path.{◌≡◌, refl}
use mathlib.Core.Bool.{◌&&◌}
use lib.Dec.{leb}
use mathlib.Core.List.{List, [], ◌∷◌}
use borrow.Author.Tests.{le-leb, lt-leb, tests}
use lib.ListN.{length}
use Rattle.std.proofs.Common.{rules}
use Rattle.std.specs.List.{list_all}
use Rattle.std.proofs.lemmas.Iterator.{YieldsList-from_slice}
use Rattle.std.proofs.lemmas.Iterator.Search.{all_from_yields_List}
use Rattle.captions.specs.Caption.{all_printable, caption_good, caption_most, printable}
use Rattle.legible.proofs.caption_good.Goals as goal

each_printable : (c : List ℕ) → list_all (λ b. leb 0x20 b && leb b 0x7E) c ≡ all_printable c
unfolding all_printable printable
each_printable [] = refl
each_printable (b ∷ c) = rw (each_printable c)

pub returns-then-caption-le200 : goal.returns-then-caption-le200
unfolding caption_good
returns-then-caption-le200 c =
    let caption = c.args.caption.now in
    let e : c.all.result ≡ list_all (λ b. leb 0x20 b && leb b 0x7E) caption =
    all_from_yields_List (λ b. leb 0x20 b && leb b 0x7E) _ _ c.all.result c.all.ensures.ran (YieldsList-from_slice caption cc) (λ x b q k. search (rules, tests)) in
    rw (e, each_printable caption, le-leb (length caption) caption_most c.if-caption-le200.true)

pub returns-else-caption-le200 : goal.returns-else-caption-le200
unfolding caption_good
returns-else-caption-le200 c = rw (lt-leb (length c.args.caption.now) caption_most c.if-caption-le200.false)
