-- How a contract is shown to allow one outcome, where its clause is a plain fact: from the facts of two outcomes.
use mathlib.Core.Path.{◌≡◌, refl, sym, ◌∙◌}
use seplogic.Ra.Ura.{Ura}
use base.Logic.{ent}
use contract.Monad.{conj, conj_l, conj_r, fact, fact_i, fact_use}

module _ {M : Type 1} (𝓤 : Ura M) where
  pub both : {P Q R : Type 0} → (P → Q → R) → ent 𝓤 (conj 𝓤 (fact 𝓤 P) (fact 𝓤 Q)) (fact 𝓤 R)
  both {P} {Q} {R} h =
      fact_use 𝓤 P (conj_l 𝓤 (fact 𝓤 P) (fact 𝓤 Q)) (λ p.
      fact_use 𝓤 Q (conj_r 𝓤 (fact 𝓤 P) (fact 𝓤 Q)) (λ q. fact_i 𝓤 R (conj 𝓤 (fact 𝓤 P) (fact 𝓤 Q)) (h p q)))

  -- the clause is an equation of the result, and nothing is lent to be changed
  pub by_result : {X L : Type 0} {v r r' : X} {l : L} → ent 𝓤 (conj 𝓤 (fact 𝓤 (r ≡ v)) (fact 𝓤 (r' ≡ v))) (fact 𝓤 ((r ≡ r') × (l ≡ l)))
  by_result = both (λ p q. (p ∙ sym q, refl))

  -- the clause is an equation of the result and of the one thing lent to be changed, which stands at its place among what is lent
  pub by_pair : {X Y L : Type 0} {v : X × Y} {r r' : X} {y y' : Y} (at : Y → L) → ent 𝓤 (conj 𝓤 (fact 𝓤 ((r, y) ≡ v)) (fact 𝓤 ((r', y') ≡ v))) (fact 𝓤 ((r ≡ r') × (at y ≡ at y')))
  by_pair at = both (λ p q. let e = p ∙ sym q in (λ i. (e i).0, λ i. at (e i).1))
