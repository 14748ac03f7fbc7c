-- A line that is taken keeps the card's rules. Assumes nothing.
use Rattle.std.proofs.Common.{◌≡◌, ℕ, ◌+◌, ◌<◌, List, [], ◌∷◌, ◌++◌, length, get_or, take, sym, ap, ◌∙◌, subst, ⊎_elim, arith, length-set}
use lib.ListN.{get_or-append}
use Rattle.std.proofs.lemmas.List.{take_more_set, length-take-le, get_or_push, length_push}
use Rattle.std.proofs.ByRecursion.{All-push}
use Rattle.std.proofs.lemmas.Bool.{cases_lt}
use Rattle.card.specs.Bytes.{filled}
use Rattle.card.specs.Records.{Kept, KeepsRules, WellFormedSymbol, WellFormedRule, DistinctNames, arities, blank_symbol}
use Rattle.card.specs.declared.record.SymbolRecord.{SymbolRecord}
use Rattle.card.specs.declared.record.RuleRecord.{RuleRecord}
use Rattle.reading.proofs.SymbolForms.{symbol_read}
use Rattle.reading.proofs.RuleForms.{rule_taken}
use Rattle.draft.specs.Drafts.{counts, SymbolTaken, RuleTaken}

-- one name more, which no record holds yet
distinct_push : (ss : List SymbolRecord) (s : SymbolRecord) → DistinctNames ss → ((i : ℕ) → i < length ss → (get_or ss i blank_symbol).name ≡ s.name → ⊥) → DistinctNames (ss ++ (s ∷ []))
distinct_push ss s d new i j l h e =
    let n : length (ss ++ (s ∷ [])) ≡ length ss + 1 = length_push ss s in
    ⊎_elim
    (λ early. d i j l early (ap (λ (x : SymbolRecord). x.name) (sym (get_or-append ss (s ∷ []) blank_symbol i (omega arith))) ∙ (e ∙ ap (λ (x : SymbolRecord). x.name) (get_or-append ss (s ∷ []) blank_symbol j early))))
    (λ late. let at : j ≡ length ss = omega arith in
    let here : get_or (ss ++ (s ∷ [])) j blank_symbol ≡ s = get_or_push ss s blank_symbol j (sym at) in
    new i (omega arith) (ap (λ (x : SymbolRecord). x.name) (sym (get_or-append ss (s ∷ []) blank_symbol i (omega arith))) ∙ (e ∙ ap (λ (x : SymbolRecord). x.name) here)))
    (cases_lt j (length ss))

pub symbol_keeps : (m : ℕ) (text : List ℕ) (rs : List RuleRecord) (before after : List SymbolRecord) → SymbolTaken m text rs before after → Kept after rs (counts (m + 1) 0)
symbol_keeps m text rs before after t =
    let k = t.kept in
    let long = k.symbols_long in
    let few = k.few_symbols in
    let w = symbol_read (take m before) text t.symbol t.line in
    let n : length (take m before) ≡ m = length-take-le m before (omega arith) in
    let room : m < 64 = omega (arith, w.0) in
    let f = w.1 in
    let l : length after ≡ length before = ap length t.written ∙ length-set before m t.symbol in
    let front : take (m + 1) after ≡ take m before ++ (t.symbol ∷ []) = ap (take (m + 1)) t.written ∙ take_more_set before m t.symbol (omega arith) in
    let named : t.symbol.name ≡ filled f.name = ap (λ (x : SymbolRecord). x.name) f.record_is in
    let arity : t.symbol.arity ≡ f.arity = ap (λ (x : SymbolRecord). x.arity) f.record_is in
    let good : WellFormedSymbol t.symbol = record { name = f.name; is = record { named = f.is_name; holds = named; few_children = (let c = f.few_children in omega arith) } } in
    record {
      symbols_long = omega arith;
      rules_long = k.rules_long;
      few_symbols = omega arith;
      few_rules = omega arith;
      keeps = subst (λ xs. KeepsRules xs (take 0 rs)) (sym front)
          (record {
            each_symbol = All-push WellFormedSymbol (take m before) t.symbol k.keeps.each_symbol good;
            distinct = distinct_push (take m before) t.symbol k.keeps.distinct w.2;
            each_rule = tt;
          });
    }

pub rule_keeps : (m n : ℕ) (text : List ℕ) (ss : List SymbolRecord) (before after : List RuleRecord) → RuleTaken m n text ss before after → Kept ss after (counts m (n + 1))
rule_keeps m n text ss before after t =
    let k = t.kept in
    let long = k.rules_long in
    let w = rule_taken (take m ss) n text t.rule t.line in
    let room : n < 64 = w.0 in
    let l : length after ≡ length before = ap length t.written ∙ length-set before n t.rule in
    let front : take (n + 1) after ≡ take n before ++ (t.rule ∷ []) = ap (take (n + 1)) t.written ∙ take_more_set before n t.rule (omega arith) in
    let good : WellFormedRule (arities (take m ss)) t.rule = record { left = w.1.left; right = w.1.right; is = w.1.is_rule } in
    record {
      symbols_long = k.symbols_long;
      rules_long = omega arith;
      few_symbols = k.few_symbols;
      few_rules = omega arith;
      keeps = subst (λ xs. KeepsRules (take m ss) xs) (sym front)
          (record {
            each_symbol = k.keeps.each_symbol;
            distinct = k.keeps.distinct;
            each_rule = All-push (WellFormedRule (arities (take m ss))) (take n before) t.rule k.keeps.each_rule good;
          });
    }
