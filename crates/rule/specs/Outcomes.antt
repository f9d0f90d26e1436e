-- Document 01: any two outcomes allowed by a contract are equal. Of the contract as the check has it, for every function of every crate.
use Rattle.std.specs.Prelude.{◌≡◌}
use seplogic.Ra.Ura.{Ura}
use base.Logic.{SProp, ent}
use prog.Memory.{Memory}
use prog.Routine.{Routine}
use types.Logic.{Logic}
use contract.Lifetimes.{Lfts}
use contract.Monad.{Fun, conj, fact}
use denote.Triple.Clauses.{Clauses, Ended, Lasts, at_exit}
use denote.Triple.Entry.{Args, Res}

-- a function's clauses, in every model of the machine
abbrev pub Contract : Ended → Type 2
Contract T = (M : Type 1) (𝓤 : Ura M) → (𝓛 : Logic 𝓤) → (Memory → SProp 𝓤) → (Routine → Fun 𝓤) → Clauses 𝓤 T

-- An outcome is the result and what each `&mut` parameter holds at the end; every other parameter is as it was passed. Two that the `ensures` allows of the same arguments are equal.
abbrev pub OneOutcome : (T : Ended) → Contract T → Type 2
OneOutcome T c =
    (M : Type 1) (𝓤 : Ura M) (𝓛 : Logic 𝓤) (mem : Memory → SProp 𝓤) (run : Routine → Fun 𝓤) (κs : Lfts T.signature.lifetimes) (a : Args T.signature κs)
    → let f = c M 𝓤 𝓛 mem run κs a in
    (g : f.ghost) (r r' : Res T.signature κs) (l l' : Lasts T κs a)
    → ent 𝓤 (conj 𝓤 (f.ensures g r (at_exit T κs a l)) (f.ensures g r' (at_exit T κs a l'))) (fact 𝓤 ((r ≡ r') × (l ≡ l')))
