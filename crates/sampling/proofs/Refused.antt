-- A refusal that a call passes on.
use mathlib.Core.Path.{◌≡◌, ap, ◌∙◌}
use mathlib.Core.Bool.{false}
use Prim.Native.Nat.{ℕ}
use lib.Dec.{eqb}
use borrow.Author.Tests.{ne_eqb}
use Rattle.std.specs.Prelude.{Result, Err}
use Rattle.std.specs.Result.{IsErrAnd}
use Rattle.std.proofs.lemmas.Result.{err_from_is_err_and}
use Rattle.counting.specs.Refusal.{number_of}
use Rattle.counting.specs.declared.refusal.Refusal.{Refusal}
use Rattle.counting.proofs.Reasons.{some_number}

-- its number is not that of none
pub refused : (r : Refusal) (n : ℕ) → number_of r ≡ n → eqb n 0 ≡ false
refused r n e = ne_eqb n 0 (λ z. some_number r (e ∙ z))

-- .. and it is what the caller answers
pub passed_on : {A : Type 0} (x : Result A Refusal) (r : Refusal) → IsErrAnd x (λ y. y ≡ r) → x ≡ Err r
passed_on x r h = let p = err_from_is_err_and x h in p.1 ∙ ap Err p.2
