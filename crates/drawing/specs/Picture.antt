-- The picture of docs/PICTURE.md: the bytes of one SVG picture of a table, with a caption. Each `%` of a text is a number.
use Rattle.std.specs.Prelude.{ℕ, ◌+◌, ◌*◌, ◌-◌, ◌/◌, max, cond, List, [], ◌∷◌, ◌++◌, eqb, ℤ, pos, length, take, drop}
use Rattle.rule.specs.declared.Bucket.{Bucket}
use Rattle.rule.specs.Bucket.{distance, end, larger, lesser, level, neighbours}
use Rattle.rule.specs.Table.{Table, last_end}
use Rattle.notation.specs.Signs.{ascii}
use Rattle.output.specs.Output.{filled, joined}
use Rattle.captions.specs.Caption.{escaped, starts_with, unescaped, up_to_bracket}
use Rattle.drawing.specs.declared.View.{View}

-- ---- the caption, in two lines

abbrev pub head_text : List ℕ
head_text = ascii "<svg xmlns=\"http://www.w3.org/2000/svg\" viewBox=\"0 0 10000 5000\" font-family=\"monospace\" font-size=\"160\" direction=\"ltr\">\n<rect width=\"10000\" height=\"5000\" fill=\"white\"/>\n<text x=\"100\" y=\"4660\" xml:space=\"preserve\"><tspan x=\"100\">"

abbrev pub between_text : List ℕ
between_text = ascii "</tspan><tspan x=\"100\" dy=\"220\">"

abbrev pub behind_text : List ℕ
behind_text = ascii "</tspan></text>\n"

-- typed bytes of the first line, at most
abbrev pub line_most : ℕ
line_most = 100

unfoldable pub front : List ℕ → List ℕ
front c = joined (head_text ∷ escaped (take line_most c) ∷ between_text ∷ escaped (drop line_most c) ∷ behind_text ∷ [])

-- ---- where a thing stands

-- the highest and the lowest level of z and the buckets
unfoldable pub highest : ℤ → Table → ℤ
highest z [] = z
highest z (b ∷ t) = highest (larger z (level b)) t

unfoldable pub lowest : ℤ → Table → ℤ
lowest z [] = z
lowest z (b ∷ t) = lowest (lesser z (level b)) t

-- what the picture of a table shows
unfoldable pub view_of : Table → View
view_of [] = record { first = 0; span = 1; top = pos 0; low = pos 0 }
view_of (b ∷ t) = record { first = b.start; span = last_end 0 (b ∷ t) - b.start; top = highest (level b) t; low = lowest (level b) t }

-- a tick, from 100 on the left to 9900 behind the last
unfoldable pub across : View → ℕ → ℕ
across v tick = 100 + (tick - v.first) * 9800 / v.span

-- a level, from 260 for the highest to 4060 for the lowest, and 2160 where all are equal
unfoldable pub down : View → ℤ → ℕ
down v z = let h = distance v.top v.low in cond (eqb h 0) 2160 (260 + distance v.top z * 3800 / h)

-- where a bucket starts and ends: no bucket is without width
abbrev pub start_of : View → Bucket → ℕ
start_of v b = across v b.start

abbrev pub end_of : View → Bucket → ℕ
end_of v b = max (across v (end b)) (start_of v b + 1)

-- ---- the scale

abbrev pub scale_text : List ℕ
scale_text = ascii "<path stroke=\"silver\" stroke-width=\"10\" stroke-dasharray=\"20 60\" d=\"M100 % H9900 M100 % H9900\"/>\n<text x=\"100\" y=\"%\" dy=\"-60\">% mV</text>\n<text x=\"100\" y=\"%\" dy=\"200\">% mV</text>\n<text x=\"9900\" y=\"4260\" text-anchor=\"end\">ticks % to %</text>\n"

abbrev pub empty_text : List ℕ
empty_text = ascii "<text x=\"100\" y=\"2160\">no readings</text>\n"

-- the highest and the lowest level, the first and the last tick
abbrev pub scale_numbers : View → List ℤ
scale_numbers v =
    let top = pos (down v v.top) in
    let low = pos (down v v.low) in
    top ∷ low ∷ top ∷ v.top ∷ low ∷ v.low ∷ pos v.first ∷ pos (v.first + v.span - 1) ∷ []

-- of so many buckets
unfoldable pub scale : ℕ → View → List ℕ
scale n v = cond (eqb n 0) empty_text (filled scale_text (scale_numbers v))

-- ---- the curve

abbrev pub curve_text : List ℕ
curve_text = ascii "<g fill=\"none\" stroke=\"black\" stroke-width=\"30\" stroke-linecap=\"square\" stroke-miterlimit=\"1.5\">\n"

abbrev pub line_text : List ℕ
line_text = ascii "<polyline points=\""

abbrev pub point_text : List ℕ
point_text = ascii "%,% "

abbrev pub line_end : List ℕ
line_end = ascii "\"/>\n"

abbrev pub end_text : List ℕ
end_text = ascii "</g>\n</svg>\n"

-- the first bucket joins the run that follows it, or is a run of its own
unfoldable pub before : Bucket → List Table → List Table
before a [] = (a ∷ []) ∷ []
before a ([] ∷ rs) = (a ∷ []) ∷ rs
before a ((b ∷ r) ∷ rs) = cond (neighbours a b) ((a ∷ b ∷ r) ∷ rs) ((a ∷ []) ∷ (b ∷ r) ∷ rs)

-- the runs of a table, each a table of its own
unfoldable pub runs_of : Table → List Table
runs_of [] = []
runs_of (b ∷ t) = before b (runs_of t)

-- the points of a run: both ends of each bucket, at its level
unfoldable pub points_of : View → Table → List (ℕ × ℕ)
points_of v [] = []
points_of v (b ∷ r) = (start_of v b, down v (level b)) ∷ (end_of v b, down v (level b)) ∷ points_of v r

unfoldable pub printed : List (ℕ × ℕ) → List ℕ
printed [] = []
printed (p ∷ ps) = filled point_text (pos p.0 ∷ pos p.1 ∷ []) ++ printed ps

-- one broken line
unfoldable pub polyline : View → Table → List ℕ
polyline v r = joined (line_text ∷ printed (points_of v r) ∷ line_end ∷ [])

unfoldable pub polylines : View → List Table → List ℕ
polylines v [] = []
polylines v (r ∷ rs) = polyline v r ++ polylines v rs

-- one for each run
unfoldable pub curve : Table → List ℕ
curve t = joined (curve_text ∷ polylines (view_of t) (runs_of t) ∷ end_text ∷ [])

-- ---- the picture

unfoldable pub picture : Table → List ℕ → List ℕ
picture t c = joined (front c ∷ scale (length t) (view_of t) ∷ curve t ∷ [])

-- ---- the caption read back

-- what stands behind the first place where a word begins
unfoldable pub behind : List ℕ → List ℕ → List ℕ
behind w [] = []
behind w (b ∷ l) = cond (starts_with w (b ∷ l)) (drop (length w) (b ∷ l)) (behind w l)

-- what stands before the next bracket behind the one element's beginning and behind the other's
unfoldable pub caption_of : List ℕ → List ℕ
caption_of p =
    let q = behind (ascii "<tspan x=\"100\">") p in
    unescaped (up_to_bracket q) ++ unescaped (up_to_bracket (behind (ascii "<tspan x=\"100\" dy=\"220\">") q))
