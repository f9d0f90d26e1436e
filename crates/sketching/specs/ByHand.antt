-- Inputs worked by hand: an example of docs/PICTURE.md, none at all, a caption without a line feed, and refused ones.
use Prim.Native.String.{String}
use Rattle.std.specs.Prelude.{◌≡◌, List, [], ◌∷◌, map}
use Rattle.notation.specs.Signs.{ascii}
use Rattle.sketching.specs.Sketching.{drawn_of}

unfoldable pub pictures : List (String × String)
pictures =
    ("relay <30> & \"ground\"\nsteps 1\nlate 2\n0 1\n1 4\n2 2\n3 9\n6 2\n5 3\n4 8\n", "<svg xmlns=\"http://www.w3.org/2000/svg\" viewBox=\"0 0 10000 5000\" font-family=\"monospace\" font-size=\"160\" direction=\"ltr\">\n<rect width=\"10000\" height=\"5000\" fill=\"white\"/>\n<text x=\"100\" y=\"4660\" xml:space=\"preserve\"><tspan x=\"100\">relay &lt;30&gt; &amp; &quot;ground&quot;</tspan><tspan x=\"100\" dy=\"220\"></tspan></text>\n<path stroke=\"silver\" stroke-width=\"10\" stroke-dasharray=\"20 60\" d=\"M100 260 H9900 M100 4060 H9900\"/>\n<text x=\"100\" y=\"260\" dy=\"-60\">8 mV</text>\n<text x=\"100\" y=\"4060\" dy=\"200\">2 mV</text>\n<text x=\"9900\" y=\"4260\" text-anchor=\"end\">ticks 0 to 6</text>\n<g fill=\"none\" stroke=\"black\" stroke-width=\"30\" stroke-linecap=\"square\" stroke-miterlimit=\"1.5\">\n<polyline points=\"100,4060 4300,4060 4300,260 7100,260 7100,4060 9900,4060 \"/>\n</g>\n</svg>\n")
    ∷ ("", "<svg xmlns=\"http://www.w3.org/2000/svg\" viewBox=\"0 0 10000 5000\" font-family=\"monospace\" font-size=\"160\" direction=\"ltr\">\n<rect width=\"10000\" height=\"5000\" fill=\"white\"/>\n<text x=\"100\" y=\"4660\" xml:space=\"preserve\"><tspan x=\"100\"></tspan><tspan x=\"100\" dy=\"220\"></tspan></text>\n<text x=\"100\" y=\"2160\">no readings</text>\n<g fill=\"none\" stroke=\"black\" stroke-width=\"30\" stroke-linecap=\"square\" stroke-miterlimit=\"1.5\">\n</g>\n</svg>\n")
    ∷ ("5", "<svg xmlns=\"http://www.w3.org/2000/svg\" viewBox=\"0 0 10000 5000\" font-family=\"monospace\" font-size=\"160\" direction=\"ltr\">\n<rect width=\"10000\" height=\"5000\" fill=\"white\"/>\n<text x=\"100\" y=\"4660\" xml:space=\"preserve\"><tspan x=\"100\">5</tspan><tspan x=\"100\" dy=\"220\"></tspan></text>\n<text x=\"100\" y=\"2160\">no readings</text>\n<g fill=\"none\" stroke=\"black\" stroke-width=\"30\" stroke-linecap=\"square\" stroke-miterlimit=\"1.5\">\n</g>\n</svg>\n")
    ∷ ("a\tb\n5\n", "refused 0 15\n")
    ∷ ("\r\nx\n", "refused 0 15\n")
    ∷ ("steps 1\n5\nsteps 1\n", "refused 2 14\n")
    ∷ ("\n\n", "refused 1 14\n")
    ∷ ("late 2\nlate 1\n0 1\n0 1\n7", "refused 3 11\n")
    ∷ []

pub record ByHand : Type 0 where
  pub worked : map (λ e. drawn_of (ascii e.0)) pictures ≡ map (λ e. ascii e.1) pictures
