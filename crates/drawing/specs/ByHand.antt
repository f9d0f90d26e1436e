-- Pictures worked by hand: none, the two examples of docs/PICTURE.md, two lone readings at the ends of the range, and one bucket.
use Rattle.std.specs.Prelude.{◌≡◌, [], ◌∷◌, pos, negsuc}
use Rattle.rule.specs.ByHand.{bucket}
use Rattle.notation.specs.Signs.{ascii}
use Rattle.drawing.specs.Picture.{caption_of, picture}

pub record ByHand : Type 0 where
  pub none : picture [] [] ≡ ascii "<svg xmlns=\"http://www.w3.org/2000/svg\" viewBox=\"0 0 10000 5000\" font-family=\"monospace\" font-size=\"160\" direction=\"ltr\">\n<rect width=\"10000\" height=\"5000\" fill=\"white\"/>\n<text x=\"100\" y=\"4660\" xml:space=\"preserve\"><tspan x=\"100\"></tspan><tspan x=\"100\" dy=\"220\"></tspan></text>\n<text x=\"100\" y=\"2160\">no readings</text>\n<g fill=\"none\" stroke=\"black\" stroke-width=\"30\" stroke-linecap=\"square\" stroke-miterlimit=\"1.5\">\n</g>\n</svg>\n"
  pub example : picture (bucket 0 3 (pos 1) (pos 4) ∷ bucket 3 2 (pos 8) (pos 9) ∷ bucket 5 2 (pos 2) (pos 3) ∷ []) (ascii "relay <30> & \"ground\"") ≡ ascii "<svg xmlns=\"http://www.w3.org/2000/svg\" viewBox=\"0 0 10000 5000\" font-family=\"monospace\" font-size=\"160\" direction=\"ltr\">\n<rect width=\"10000\" height=\"5000\" fill=\"white\"/>\n<text x=\"100\" y=\"4660\" xml:space=\"preserve\"><tspan x=\"100\">relay &lt;30&gt; &amp; &quot;ground&quot;</tspan><tspan x=\"100\" dy=\"220\"></tspan></text>\n<path stroke=\"silver\" stroke-width=\"10\" stroke-dasharray=\"20 60\" d=\"M100 260 H9900 M100 4060 H9900\"/>\n<text x=\"100\" y=\"260\" dy=\"-60\">8 mV</text>\n<text x=\"100\" y=\"4060\" dy=\"200\">2 mV</text>\n<text x=\"9900\" y=\"4260\" text-anchor=\"end\">ticks 0 to 6</text>\n<g fill=\"none\" stroke=\"black\" stroke-width=\"30\" stroke-linecap=\"square\" stroke-miterlimit=\"1.5\">\n<polyline points=\"100,4060 4300,4060 4300,260 7100,260 7100,4060 9900,4060 \"/>\n</g>\n</svg>\n"
  pub three_runs : picture (bucket 3 1 (negsuc 3) (negsuc 3) ∷ bucket 4 2 (negsuc 2) (pos 0) ∷ bucket 6 1 (pos 1) (pos 1) ∷ bucket 7 5 (pos 2) (pos 5) ∷ bucket 14 1 (pos 1) (pos 1) ∷ bucket 17 3 (negsuc 3) (negsuc 2) ∷ []) (ascii "<b>&amp;'") ≡ ascii "<svg xmlns=\"http://www.w3.org/2000/svg\" viewBox=\"0 0 10000 5000\" font-family=\"monospace\" font-size=\"160\" direction=\"ltr\">\n<rect width=\"10000\" height=\"5000\" fill=\"white\"/>\n<text x=\"100\" y=\"4660\" xml:space=\"preserve\"><tspan x=\"100\">&lt;b&gt;&amp;amp;&#39;</tspan><tspan x=\"100\" dy=\"220\"></tspan></text>\n<path stroke=\"silver\" stroke-width=\"10\" stroke-dasharray=\"20 60\" d=\"M100 260 H9900 M100 4060 H9900\"/>\n<text x=\"100\" y=\"260\" dy=\"-60\">3 mV</text>\n<text x=\"100\" y=\"4060\" dy=\"200\">-4 mV</text>\n<text x=\"9900\" y=\"4260\" text-anchor=\"end\">ticks 3 to 19</text>\n<g fill=\"none\" stroke=\"black\" stroke-width=\"30\" stroke-linecap=\"square\" stroke-miterlimit=\"1.5\">\n<polyline points=\"100,4060 676,4060 676,2974 1829,2974 1829,1345 2405,1345 2405,260 5288,260 \"/>\n<polyline points=\"6441,1345 7017,1345 \"/>\n<polyline points=\"8170,4060 9900,4060 \"/>\n</g>\n</svg>\n"
  pub ends : picture (bucket 7 1 (negsuc 2147483647) (negsuc 2147483647) ∷ bucket 16777215 1 (pos 2147483647) (pos 2147483647) ∷ []) (ascii "&lt;") ≡ ascii "<svg xmlns=\"http://www.w3.org/2000/svg\" viewBox=\"0 0 10000 5000\" font-family=\"monospace\" font-size=\"160\" direction=\"ltr\">\n<rect width=\"10000\" height=\"5000\" fill=\"white\"/>\n<text x=\"100\" y=\"4660\" xml:space=\"preserve\"><tspan x=\"100\">&amp;lt;</tspan><tspan x=\"100\" dy=\"220\"></tspan></text>\n<path stroke=\"silver\" stroke-width=\"10\" stroke-dasharray=\"20 60\" d=\"M100 260 H9900 M100 4060 H9900\"/>\n<text x=\"100\" y=\"260\" dy=\"-60\">2147483647 mV</text>\n<text x=\"100\" y=\"4060\" dy=\"200\">-2147483648 mV</text>\n<text x=\"9900\" y=\"4260\" text-anchor=\"end\">ticks 7 to 16777215</text>\n<g fill=\"none\" stroke=\"black\" stroke-width=\"30\" stroke-linecap=\"square\" stroke-miterlimit=\"1.5\">\n<polyline points=\"100,4060 101,4060 \"/>\n<polyline points=\"9899,260 9900,260 \"/>\n</g>\n</svg>\n"
  pub one : picture (bucket 3 2 (pos 5) (pos 8) ∷ []) [] ≡ ascii "<svg xmlns=\"http://www.w3.org/2000/svg\" viewBox=\"0 0 10000 5000\" font-family=\"monospace\" font-size=\"160\" direction=\"ltr\">\n<rect width=\"10000\" height=\"5000\" fill=\"white\"/>\n<text x=\"100\" y=\"4660\" xml:space=\"preserve\"><tspan x=\"100\"></tspan><tspan x=\"100\" dy=\"220\"></tspan></text>\n<path stroke=\"silver\" stroke-width=\"10\" stroke-dasharray=\"20 60\" d=\"M100 2160 H9900 M100 2160 H9900\"/>\n<text x=\"100\" y=\"2160\" dy=\"-60\">6 mV</text>\n<text x=\"100\" y=\"2160\" dy=\"200\">6 mV</text>\n<text x=\"9900\" y=\"4260\" text-anchor=\"end\">ticks 3 to 4</text>\n<g fill=\"none\" stroke=\"black\" stroke-width=\"30\" stroke-linecap=\"square\" stroke-miterlimit=\"1.5\">\n<polyline points=\"100,2160 9900,2160 \"/>\n</g>\n</svg>\n"
  pub typed : caption_of (picture [] (ascii "&lt; '<>\"")) ≡ ascii "&lt; '<>\""
