-- A record rule asked by its number.
use Rattle.std.specs.Prelude.{ℕ, Bool, true, ◌∷◌, get_or}
use Rattle.rule.specs.declared.Bucket.{Bucket}
use Rattle.rule.specs.declared.Kind.{Kind}
use Rattle.rule.specs.Rules.{rules}

-- a record meets the rule of a number, from 1; there are no others than those listed
unfoldable pub meets : ℕ → Kind → ℕ → Bucket → Bool
meets n k e b = get_or (true ∷ rules k e b) n true
