-- A recording whose readings are d more has the same records, moved.
use Prim.Native.Nat.{ℕ, zero, suc, ◌+◌, ◌*◌, ◌/◌, ◌%◌, ◌<◌}
use mathlib.Core.Path.{◌≡◌, refl, ap, ◌∙◌}
use mathlib.Core.Bool.{true}
use mathlib.Core.List.Memᴰ
use mathlib.Core.List.{List, [], ◌∷◌, ◌++◌, map}
use native.Mathlib.Nat.{add_assoc}
use native.Mathlib.Omega.{arith}
use lib.IntN.{ℤ}
use lib.ListN.{length, drop, get_or, length-append, length-drop, length-map}
use lib.Seq.{get_or-drop}
use Rattle.rule.specs.Bytes.{bits, bytes, reading, record_at, records, records_of, saved, saved_record, word_at}
use Rattle.rule.specs.Room.{signed}
use Rattle.rule.specs.Table.{Table, single}
use Rattle.rule.proofs.Fitting.{Fitted}
use Rattle.rule.proofs.Signed.{signed_fits}
use Rattle.storage.specs.Bytes.{AllBytes}
use Rattle.storage.proofs.RoundTrip.{records_saved}
use Rattle.logger.specs.declared.Frame.{Frame}
use Rattle.logger.specs.Replay.{frame_at, frames, frames_of}
use Rattle.logger.proofs.Replaying.{length_frames}
use Rattle.offset.specs.Offset.{AllFit, RecordingMoved, bytes_of, moved_frame, raised, readings_of, six_bytes}

-- four bytes and more
pub word_bytes : (n : ℕ) (rest : List ℕ) → AllBytes rest → AllBytes (bytes n ++ rest)
unfolding bytes
word_bytes n rest h zero = omega arith
word_bytes n rest h (suc zero) = omega arith
word_bytes n rest h (suc (suc zero)) = omega arith
word_bytes n rest h (suc (suc (suc zero))) = omega arith
word_bytes n rest h (suc (suc (suc (suc i)))) = h i

-- the four bytes of a reading are those of a saved one
reading_sent : (v : ℤ) → signed v ≡ true → reading (word_at (bytes (bits v)) 0) ≡ v
unfolding records_of records record_at saved saved_record bytes word_at Fitted
reading_sent v h =
    let fits = signed_fits v h in
    let t : Table = single 0 v ∷ [] in
    ap (λ (u : Table). (get_or u 0 (single 0 v)).least) (records_saved t (record { start = omega arith; count = omega arith; least = fits; largest = fits }, tt))

frame_sent : (f : Frame) (l : List ℕ) → signed f.value ≡ true → frame_at (six_bytes f ++ l) 0 ≡ f
unfolding frame_at bytes word_at
frame_sent f l h =
    let n : f.counter % 256 + f.counter / 256 * 256 ≡ f.counter = omega arith in
    λ i. record { counter = n i; value = reading_sent f.value h i }

frame_later : (l : List ℕ) (i : ℕ) → frame_at l (suc i) ≡ frame_at (drop 6 l) i
unfolding frame_at word_at
frame_later l i = let e : 6 * suc i ≡ 6 + 6 * i = omega arith in rw e (simp (get_or-drop, add_assoc))

frames_later : (l : List ℕ) (i n : ℕ) → frames l (suc i) n ≡ frames (drop 6 l) i n
unfolding frames
frames_later l i zero = refl
frames_later l i (suc n) = rw (frame_later l i, frames_later l (suc i) n)

length_sent : (fs : List Frame) → length (bytes_of fs) ≡ 6 * length fs
unfolding bytes_of bytes
length_sent [] = refl
length_sent (f ∷ fs) = omega (arith, length_sent fs)

module _ (d : ℤ) where
  sent_again : (fs : List Frame) (rest : List ℕ) → AllFit d (map (λ (f : Frame). f.value) fs) → frames (bytes_of (map (moved_frame d) fs) ++ rest) 0 (length fs) ≡ map (moved_frame d) fs
  unfolding frames bytes_of bytes
  sent_again [] rest h = refl
  sent_again (f ∷ fs) rest h =
      let more = bytes_of (map (moved_frame d) fs) ++ rest in
      rw (
        frame_sent (moved_frame d f) more (h f.value (Memᴰ.head refl)).1,
        frames_later (six_bytes (moved_frame d f) ++ more) 0 (length fs),
        sent_again fs rest (λ v m. h v (Memᴰ.tail m)),
      )

  pub recording_raised : (r : List ℕ) → AllFit d (readings_of r) → RecordingMoved d r (raised d r)
  recording_raised r h =
      let fs : List Frame = frames_of r in
      let rest = drop (6 * (length r / 6)) r in
      let count : length r / 6 ≡ length fs = omega (arith, length_frames r 0 (length r / 6)) in
      let long : length (raised d r) ≡ length r = omega (arith, length-append (bytes_of (map (moved_frame d) fs)) rest, length_sent (map (moved_frame d) fs), length-map fs (moved_frame d), length-drop (6 * (length r / 6)) r) in
      record {
        long = long;
        records = ap (λ (n : ℕ). frames (raised d r) 0 (n / 6)) long ∙ ap (frames (raised d r) 0) count ∙ sent_again fs rest h;
        fit = h;
      }

  -- ---- bytes stay bytes

  bytes_in_six : (f : Frame) (rest : List ℕ) → f.counter < 65536 → AllBytes rest → AllBytes (six_bytes f ++ rest)
  unfolding bytes
  bytes_in_six f rest h known zero = omega arith
  bytes_in_six f rest h known (suc zero) = omega arith
  bytes_in_six f rest h known (suc (suc i)) = word_bytes (bits f.value) rest known i

  sent_bytes : (r : List ℕ) → AllBytes r → (i n : ℕ) (rest : List ℕ) → AllBytes rest → AllBytes (bytes_of (map (moved_frame d) (frames r i n)) ++ rest)
  unfolding frames frame_at bytes_of bytes
  sent_bytes r known i zero rest more = more
  sent_bytes r known i (suc n) rest more =
      bytes_in_six (moved_frame d (frame_at r i)) (bytes_of (map (moved_frame d) (frames r (suc i) n)) ++ rest) (omega (arith, known (6 * i), known (6 * i + 1))) (sent_bytes r known (suc i) n rest more)

  pub raised_bytes : (r : List ℕ) → AllBytes r → AllBytes (raised d r)
  raised_bytes r known = let k = 6 * (length r / 6) in sent_bytes r known 0 (length r / 6) (drop k r) (λ i. rw get_or-drop (known (k + i)))
