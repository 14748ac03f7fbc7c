-- Closures of any relation, and the properties of abstract rewriting that rest on them. Assumes nothing.

-- none or more steps
pub data Star {A : Type 0} (S : A → A → Type 0) : A → A → Type 0 where
  stop : {a : A} → Star S a a
  step : {a b c : A} → S a b → Star S b c → Star S a c

-- a chain of steps, each taken forward or backward
pub data Chain {A : Type 0} (S : A → A → Type 0) : A → A → Type 0 where
  end : {a : A} → Chain S a a
  forward : {a b c : A} → S a b → Chain S b c → Chain S a c
  backward : {a b c : A} → S b a → Chain S b c → Chain S a c

-- both lead to one element
pub record Joined {A : Type 0} (S : A → A → Type 0) (a b : A) : Type 0 where
  pub meet : A
  pub left : Star S a meet
  pub right : Star S b meet

abbrev pub Joins : {A : Type 0} (S : A → A → Type 0) → Type 0
Joins {A} S = (a b c : A) → Star S a b → Star S a c → Joined S b c

-- no step leaves it
abbrev pub Final : {A : Type 0} (S : A → A → Type 0) → A → Type 0
Final {A} S a = (b : A) → S a b → ⊥
