-- What a result whose error was made into another one says. Assumes nothing.
use Rattle.std.proofs.Common.{◌≡◌, Ok, Err, Result, MatchResult, sym, subst}
use Rattle.std.specs.Result.{IsErrAnd}

pub mapped : {T E D : Type 0} {A C : T → Type 0} {B : E → Type 0} {P : E → D → Type 0} {F : D → Type 0} (r : Result T E) (q : Result T D)
    → MatchResult r A B → MatchResult r (λ x. q ≡ Ok x) (λ e. IsErrAnd q (P e)) → ((x : T) → A x → C x) → ((e : E) (d : D) → B e → P e d → F d)
    → MatchResult q C F
mapped {C = C} {F = F} (Ok x) q a is ok err = subst (λ y. MatchResult y C F) (sym is) (ok x a)
mapped (Err e) (Ok y) b is ok err = absurd is
mapped (Err e) (Err d) b is ok err = err e d b is
