-- A test that a tree is one of a signature's. Assumes nothing.
use Rattle.std.specs.Prelude.{ℕ, Bool, true, false, ◌&&◌, Some, None, Decides, Option, ◌==◌}
use Rattle.rewriting.specs.Terms.{Tree, node, Trees, nil, cons, count}
use Rattle.rewriting.specs.Cards.{Signature, OnSignature}

abbrev pub takes : Option ℕ → ℕ → Bool
takes None n = false
takes (Some a) n = a == n

abbrev mutual
  pub on_signature : Signature → Tree → Bool
  on_signature Σ (node f ts) = takes (Σ f) (count ts) && all_on_signature Σ ts

  pub all_on_signature : Signature → Trees → Bool
  all_on_signature Σ nil = true
  all_on_signature Σ (cons t ts) = on_signature Σ t && all_on_signature Σ ts

-- an empty tin, or a tin with a tree of the signature
abbrev pub tin_on : Signature → Option Tree → Bool
tin_on Σ None = true
tin_on Σ (Some t) = on_signature Σ t

-- LAWS

abbrev pub TreesOnASignatureAreTold : Type 0
TreesOnASignatureAreTold = (Σ : Signature) (t : Tree) → Decides (on_signature Σ t) (OnSignature Σ t)
