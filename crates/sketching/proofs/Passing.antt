-- A program that reads a piece gets on while the caption is good and no line is refused, and not without end.
use Prim.Native.Nat.{ℕ, zero, suc, ◌+◌, ◌-◌, ◌≤◌, ◌<◌}
use mathlib.Core.Path.{◌≡◌, refl, sym, ap, ◌∙◌, subst}
use mathlib.Core.Bool.{Bool, true, false, cond, ◌&&◌, not}
use mathlib.Core.List.{List, [], ◌∷◌, ◌++◌}
use native.Mathlib.Omega.{arith}
use borrow.Author.Tests.{leb-true, leb-false}
use lib.Dec.{leb}
use lib.IntN.{ℤ, pos}
use lib.ListN.{drop, length, replicate, take, length-append}
use lib.Seq.{length-take-le, take-nil}
use Rattle.rule.specs.Room.{zeros}
use Rattle.rule.specs.Table.{limit_over}
use Rattle.rule.proofs.Whole.{by_test}
use Rattle.rule.proofs.Ruling.{and_left}
use Rattle.listing.specs.declared.Feeding.{Feeding}
use Rattle.listing.specs.Feeding.{Reader, fed, fresh, has_ended, rest_fed}
use Rattle.listing.specs.Lists.{start}
use Rattle.listing.proofs.Passing.{most_passed, passed, reached_passes}
use Rattle.listing.proofs.Listed as listed
use Rattle.captions.specs.Caption.{all_printable, caption_good}
use Rattle.sketching.specs.declared.Heading.{Heading}
use Rattle.sketching.specs.Sketching.{caption_in, trace_in}
use Rattle.sketching.specs.Heading.{Drawable, headed, unheaded}
use Rattle.sketching.proofs.Caption.{Keeps, broken, going_broken, going_caption, headed_to, no_trace, whole_caption}
use Rattle.sketching.proofs.Sketched.{Stands, stands_drawable, stands_headed, stands_start}

-- some input was read so far
pub record Reached (h : Heading) (c : List ℕ) (f : Feeding) (l : List ℤ) (line : List ℕ) : Type 0 where
  pub input : List ℕ
  pub stands : Stands h c (f, (l, line)) input

pub reached_start : {f : Feeding} {l : List ℤ} → (f, l) ≡ fresh (replicate 3076 (pos 0)) → Reached unheaded (replicate 201 0) f l (replicate 64 0)
unfolding start zeros limit_over
reached_start e =
    record { input = []; stands = subst (λ (o : Feeding × List ℤ). Stands unheaded (replicate 201 0) (o.0, (o.1, replicate 64 0)) []) (sym e) stands_start }

pub reached_inside : {h : Heading} {c : List ℕ} {f : Feeding} {l : List ℤ} {line : List ℕ} → Reached h c f l line → h.filled ≤ 201
reached_inside x = x.stands.keeps.inside

module _ {h h' : Heading} {c c' : List ℕ} {f : Feeding} {l : List ℤ} {line : List ℕ} (bytes : List ℕ) (x : Reached h c f l line) (head : ◌≡◌ {A = Heading × List ℕ} (h', c') (headed h c bytes)) where
  behind : Stands h' c' (fed (f, (l, line)) (drop h'.taken bytes)) (x.input ++ bytes)
  behind =
      subst (λ (o : Heading × List ℕ). Stands o.0 o.1 (fed (f, (l, line)) (drop o.0.taken bytes)) (x.input ++ bytes)) (sym head)
      (stands_headed h c (f, (l, line)) x.input bytes x.stands)

  -- the places kept, and the bytes of the piece that were taken
  pub kept_inside : h'.filled ≤ 201
  kept_inside = behind.keeps.inside

  pub kept_wide : length c' ≡ 201
  kept_wide = behind.keeps.wide

  pub taken_inside : h'.taken ≤ length bytes
  unfolding headed
  taken_inside =
      by_test h.ended
      (λ e. let at : h'.taken ≡ 0 = rw e at (ap (λ (o : Heading × List ℕ). o.0.taken) head) in omega (arith, at))
      (λ e.
      let b : broken x.input ≡ false = sym x.stands.ended ∙ e in
      let y = headed_to bytes h.filled 0 c x.input (subst (λ (z : List ℕ). Keeps h.filled c z) (whole_caption x.input b) x.stands.keeps) in
      let at = rw e at (ap (λ (o : Heading × List ℕ). o.0.taken) head) in
      omega (arith, at, y.most))

  module _ {f' : Feeding} {l' : List ℤ} {line' : List ℕ} (goes : ◌≡◌ {A = Reader} (f', (l', line')) (fed (f, (l, line)) (drop h'.taken bytes))) where
    reached_piece : Reached h' c' f' l' line'
    reached_piece = record { input = x.input ++ bytes; stands = subst (λ (z : Reader). Stands h' c' z (x.input ++ bytes)) (sym goes) behind }

-- ---- at the input's end

pub reached_drawable : {h : Heading} {c : List ℕ} {f f' : Feeding} {l l' : List ℤ} {line : List ℕ} → Reached h c f l line → (f', l') ≡ rest_fed f.last f l line → Drawable f'.last l'
reached_drawable x e = subst (λ (o : Feeding × List ℤ). Drawable o.0.last o.1) (sym e) (stands_drawable x.input x.stands)

-- ---- how far it has got

abbrev pub gone : Heading → Feeding → ℕ
gone h f = h.filled + (cond h.ended 1 0 + passed f)

abbrev pub most_gone : ℕ
most_gone = 201 + (1 + most_passed)

good_short : (k : ℕ) (c : List ℕ) → k ≤ length c → caption_good (take k c) ≡ true → k ≤ 200
unfolding caption_good
good_short k c h e = omega (arith, length-take-le k c h, leb-true (length (take k c)) 200 (and_left (leb (length (take k c)) 200) (all_printable (take k c)) e))

start_passed : {f : Feeding} {l : List ℤ} {line : List ℕ} → ◌≡◌ {A = Reader} (f, (l, line)) start → passed f ≡ 0
unfolding start
start_passed e = ap (λ (z : Reader). passed z.0) e

-- from the start no reader gets further than the end
most_from_start : {f f' : Feeding} {l l' : List ℤ} {line line' : List ℕ} (q : List ℕ) → listed.Reached f l line → passed f ≡ 0 → ◌≡◌ {A = Reader} (f', (l', line')) (fed (f, (l, line)) q) → has_ended f'.last ≡ false → passed f' ≤ most_passed
unfolding fed
most_from_start [] x none e going = let same = ap (λ (z : Reader). passed z.0) e in omega (arith, same, none)
most_from_start (b ∷ q) x none e going = (reached_passes (b ∷ q) x e (omega arith) going).1

module _ {h h' : Heading} {c c' : List ℕ} {f f' : Feeding} {l l' : List ℤ} {line line' : List ℕ} (bytes : List ℕ) (x : Reached h c f l line) (head : ◌≡◌ {A = Heading × List ℕ} (h', c') (headed h c bytes))
    (goes : ◌≡◌ {A = Reader} (f', (l', line')) (fed (f, (l, line)) (drop h'.taken bytes))) (some : 1 ≤ length bytes) (good : caption_good (take h'.filled c') ≡ true) (going : has_ended f'.last ≡ false) where
  abbrev i : List ℕ
  i = x.input

  lines_so_far : listed.Reached f l line
  lines_so_far = record { input = trace_in i; so_far = x.stands.reads }

  now : Stands h' c' (fed (f, (l, line)) (drop h'.taken bytes)) (i ++ bytes)
  now = behind bytes x head

  few : h'.filled ≤ 200
  few = good_short h'.filled c' (omega (arith, now.keeps.inside, now.keeps.wide)) good

  abbrev On : Type 0
  On = (gone h f < gone h' f') × (gone h' f' ≤ most_gone)

  -- behind the caption every byte is the reader's
  on_behind : h.ended ≡ true → On
  unfolding headed
  on_behind e =
      let same = rw e at head in
      let filled : h'.filled ≡ h.filled = ap (λ (o : Heading × List ℕ). o.0.filled) same in
      let taken : h'.taken ≡ 0 = ap (λ (o : Heading × List ℕ). o.0.taken) same in
      let ended : h'.ended ≡ true = ap (λ (o : Heading × List ℕ). o.0.ended) same in
      let p = reached_passes bytes lines_so_far (goes ∙ ap (λ (n : ℕ). fed (f, (l, line)) (drop n bytes)) taken) some going in
      rw (e, ended) (omega (arith, filled, p.0), omega (arith, filled, few, p.1))

  -- before its end the caption gets longer, or ends
  on_with : h.ended ≡ false → On
  unfolding fed
  on_with e =
      let b : broken i ≡ false = sym x.stands.ended ∙ e in
      let none : passed f ≡ 0 = start_passed (x.stands.reads ∙ ap (fed start) (no_trace i b)) in
      let most = most_from_start (drop h'.taken bytes) lines_so_far none goes going in
      let typed = going_caption i bytes b in
      let short : length (caption_in (i ++ bytes)) ≤ 200 =
      by_test (leb 201 (length (caption_in (i ++ bytes)))) (λ g. absurd (omega (arith, few, now.keeps.long (leb-true 201 (length (caption_in (i ++ bytes))) g))))
      (λ g. let less : length (caption_in (i ++ bytes)) < 201 = leb-false 201 (length (caption_in (i ++ bytes))) g in omega (arith, less)) in
      let all : length (caption_in (i ++ bytes)) ≡ length i + length (caption_in bytes) = ap length typed ∙ length-append i (caption_in bytes) in
      let whole : length (caption_in i) ≡ length i = ap length (whole_caption i b) in
      let before : h.filled ≡ length (caption_in i) = (x.stands.keeps.short (omega (arith, short, all, whole))).0 in
      let after : h'.filled ≡ length (caption_in (i ++ bytes)) = (now.keeps.short (omega (arith, short))).0 in
      by_test h'.ended (λ d. rw (e, d) (omega (arith, none, before, whole, after, all), omega (arith, few, most)))
      (λ d.
      let long : length (caption_in bytes) ≡ length bytes = ap length (whole_caption bytes (sym (going_broken i bytes b) ∙ sym now.ended ∙ d)) in
      rw (e, d) (omega (arith, none, before, whole, after, all, long, some), omega (arith, few, most)))

  reached_on : On
  reached_on = by_test h.ended on_behind on_with

-- ---- what is left

-- the run goes on only where the caption is good and no line is refused
abbrev pub goes_on : Heading → List ℕ → Feeding → Bool
goes_on h c f = caption_good (take h.filled c) && not (has_ended f.last)

-- how far it may yet get
abbrev pub left : Heading → List ℕ → Feeding → ℕ
left h c f = cond (goes_on h c f) (suc (most_gone - gone h f)) 0

less_left : (good ended : Bool) (m g h : ℕ) → (good ≡ true → ended ≡ false → (g < h) × (h ≤ m)) → cond (good && not ended) (suc (m - h)) 0 < suc (m - g)
less_left true true m g h on = omega arith
less_left true false m g h on = let p = on refl refl in omega (arith, p.0, p.1)
less_left false ended m g h on = omega arith

-- ---- a piece as the program has it: of what it reads into the first n bytes, and of these the ones from a place on

behind_part : (t n : ℕ) (l : List ℕ) → take (n - t) (drop t l) ≡ drop t (take n l)
behind_part zero n l = ap (λ (k : ℕ). take k l) (let all : n - 0 ≡ n = omega arith in all)
behind_part (suc t) n [] = take-nil (n - suc t) ∙ sym (ap (drop (suc t)) (take-nil n))
behind_part (suc t) zero (b ∷ l) = ap (λ (k : ℕ). take k (drop t l)) (let none : 0 - suc t ≡ 0 = omega arith in none)
behind_part (suc t) (suc n) (b ∷ l) = ap (λ (k : ℕ). take k (drop t l)) (let less : suc n - suc t ≡ n - t = omega arith in less) ∙ behind_part t n l

module _ {h h' : Heading} {c c' : List ℕ} {f f' : Feeding} {l l' : List ℤ} {line line' : List ℕ} (n : ℕ) (piece : List ℕ) (x : Reached h c f l line) (head : ◌≡◌ {A = Heading × List ℕ} (h', c') (headed h c (take n piece)))
    (goes : ◌≡◌ {A = Reader} (f', (l', line')) (fed (f, (l, line)) (take (n - h'.taken) (drop h'.taken piece)))) where
  goes_behind : ◌≡◌ {A = Reader} (f', (l', line')) (fed (f, (l, line)) (drop h'.taken (take n piece)))
  goes_behind = goes ∙ ap (fed (f, (l, line))) (behind_part h'.taken n piece)

  pub part_reached : Reached h' c' f' l' line'
  part_reached = reached_piece (take n piece) x head goes_behind

  pub part_on : 1 ≤ length (take n piece) → caption_good (take h'.filled c') ≡ true → has_ended f'.last ≡ false → (gone h f < gone h' f') × (gone h' f' ≤ most_gone)
  part_on = reached_on (take n piece) x head goes_behind

  pub part_less : 1 ≤ length (take n piece) → goes_on h c f ≡ true → left h' c' f' < left h c f
  part_less some on = rw on (less_left (caption_good (take h'.filled c')) (has_ended f'.last) most_gone (gone h f) (gone h' f') (part_on some))
