-- Parameters that have numbers for names.
use Rattle.std.proofs.Common.{◌≡◌, ℕ, ◌+◌, ◌<◌, ◌≤◌, Bool, true, false, List, [], ◌∷◌, ◌++◌, length, take, get_or, refl, sym, ap, ◌∙◌, append_assoc, arith}
use Rattle.std.specs.Prelude.{decimal}
use Rattle.std.specs.List.{filter}
use Rattle.std.proofs.lemmas.List.{append-nil, take_more}
use Rattle.ir_core.specs.declared.module.Param.{Param}
use Rattle.ir_core.specs.Language.{Unnumbered, params_behind, next_number, name_or}
use Rattle.ir_core.specs.Text.{is_digits}
use Rattle.read_items.specs.Numbered.{names_of, numerals}

abbrev param_of : List (List ℕ) → Unnumbered → Param
param_of names u = record { name = name_or u.1 (next_number names); ty = u.0 }

behind_append : (names : List (List ℕ)) (us : List Unnumbered) (u : Unnumbered) → params_behind names (us ++ u ∷ []) ≡ params_behind names us ++ param_of (names ++ names_of (params_behind names us)) u ∷ []
behind_append names [] u = ap (λ (l : List (List ℕ)). param_of l u ∷ []) (sym (append-nil names))
behind_append names (v ∷ us) u =
    let p = param_of names v in
    let next = names ++ p.name ∷ [] in
    ap (λ (l : List Param). p ∷ l)
    (behind_append next us u
    ∙ ap (λ (l : List (List ℕ)). params_behind next us ++ param_of l u ∷ []) (append_assoc names (p.name ∷ []) (names_of (params_behind next us))))

pub behind_more : (i : ℕ) (us : List Unnumbered) (u : Unnumbered) → i < length us → params_behind [] (take (i + 1) us) ≡ params_behind [] (take i us) ++ record { name = name_or (get_or us i u).1 (decimal (numerals (params_behind [] (take i us)))); ty = (get_or us i u).0 } ∷ []
behind_more i us u l = ap (params_behind []) (take_more us i u l) ∙ behind_append [] (take i us) (get_or us i u)

numeral_by : (x : List ℕ) (b : Bool) → is_digits x ≡ b → length (filter is_digits (x ∷ [])) ≤ 1
numeral_by x true e = rw e (omega arith)
numeral_by x false e = rw e (omega arith)

pub one_numeral : (x : List ℕ) → length (filter is_digits (x ∷ [])) ≤ 1
one_numeral x = numeral_by x (is_digits x) refl

push_by : (q p : Param) (ps : List Param) → numerals (ps ++ p ∷ []) ≡ numerals ps + length (filter is_digits (p.name ∷ [])) → (b : Bool) → is_digits q.name ≡ b → numerals (q ∷ ps ++ p ∷ []) ≡ numerals (q ∷ ps) + length (filter is_digits (p.name ∷ []))
push_by q p ps h true e = rw e (let k = h in omega arith)
push_by q p ps h false e = rw e h

pub numerals_push : (ps : List Param) (p : Param) → numerals (ps ++ p ∷ []) ≡ numerals ps + length (filter is_digits (p.name ∷ []))
numerals_push [] p = omega arith
numerals_push (q ∷ ps) p = push_by q p ps (numerals_push ps p) (is_digits q.name) refl
