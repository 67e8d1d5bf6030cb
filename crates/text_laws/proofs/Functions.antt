-- Functions: what spells one is spelled by its canonical text, but for lines.
use Rattle.std.proofs.Common.{◌≡◌, ℕ, List, [], ◌∷◌, ◌++◌, append_assoc, length, map, Option, Some, None, refl, sym, ap, subst, inl, inr, ◌⊎◌, codes}
use Rattle.std.specs.List.{filter, AllByRecursion}
use Rattle.std.proofs.lemmas.List.{append-nil}
use Rattle.ir_core.specs.declared.module.Param.{Param}
use Rattle.ir_core.specs.Tokens.{Mark}
use Rattle.ir_core.specs.Spell.{done, any, list_to}
use Rattle.ir_core.specs.Forms.{maybe, attribute_form, type_, result_type}
use Rattle.ir_core.specs.Language.{next_number, name_or, Unnumbered, params_behind, some_local, param, Heading, heading, kept_words}
use Rattle.ir_core.specs.Text.{is_digits}
use Rattle.ir_core.specs.Text.{type_text, local_text, global_name_text, spaced_words, comma_list, all_led, param_text}
use Rattle.text_laws.specs.Spelling.{AreBytes, IsSpelled}
use Rattle.text_laws.specs.Parts.{FormedParam}
use Rattle.text_laws.proofs.Rows.{Bare, bare}
use Rattle.text_laws.proofs.Joined.{Gives, Closes, gives_closes, closes_gives, closes_then, closes_space, closes_mark, gives_then}
use Rattle.text_laws.proofs.Spelled.{spelled_done, spelled_same, spelled_as, token_then, shows_mark}
use Rattle.text_laws.proofs.Good.{good_then, good_done, good_one, good_maybe}
use Rattle.text_laws.proofs.Back.{Back, Says, AllSay, says_last, empty_dropped, says_right, says_closed, led_ended}
use Rattle.text_laws.proofs.Names.{local_bytes, global_bytes, global_bare, gives_local, gives_global, shows_local, shows_global, says_token}
use Rattle.text_laws.proofs.Types.{type_says, result_says}
use Rattle.text_laws.proofs.Blocks.{decimal_bytes}
use Rattle.text_laws.proofs.Words.{words_back}

-- ---- headings

-- the text of a heading up to its parameters
abbrev pub heading_start : Heading → List ℕ
heading_start h = spaced_words h.words ++ (type_text h.result ++ (codes " " ++ (global_name_text h.name ++ codes "(")))

pub record HeadingParts (h : Heading) : Type 0 where
  pub words : IsSpelled kept_words h.words
  pub result : IsSpelled result_type h.result
  pub name : AreBytes h.name

pub heading_parts : (h : Heading) → IsSpelled heading h → HeadingParts h
heading_parts h g =
    let a = good_then g in
    let b = good_then (good_then a.rest).rest in
    let c = good_then b.rest in
    let d = good_then c.rest in
    subst HeadingParts (sym (good_done d.rest)) (record { words = a.front; result = b.front; name = global_bytes (good_one c.front) })

pub heading_back : (h : Heading) → HeadingParts h → Back Closes (heading_start h) heading (λ x. x ≡ h)
heading_back h p =
    let n = p.name in
    let w = words_back h.words p.words in
    let r = result_says h.result p.result in
    let open_ : Bare = bare (Mark 40) (40 ∷ []) in
    let Q : Heading → Type 0 = λ x. x ≡ h in
    record {
      tokens = w.tokens ++ (r.tokens ++ (global_bare h.name ∷ open_ ∷ []));
      lexed = closes_then w.lexed (gives_closes r.lexed (closes_then closes_space (gives_closes (gives_global h.name n) (closes_mark 40 refl refl) (λ rest. refl))) (λ rest. refl));
      spelled = spelled_same {ls = w.tokens} {ms = r.tokens ++ (global_bare h.name ∷ open_ ∷ [])} {v = h.words} {Q = Q} w.spelled
          (spelled_same {ls = []} {ms = r.tokens ++ (global_bare h.name ∷ open_ ∷ [])} {v = tt} {Q = Q} (empty_dropped (any attribute_form))
          (spelled_same {ls = r.tokens} {ms = global_bare h.name ∷ open_ ∷ []} {v = h.result} {Q = Q} r.spelled
          (token_then (shows_global h.name n) (λ x q. token_then (shows_mark 40) (λ line u. spelled_done (record { words = h.words; result = h.result; name = x }) Q (λ i. record { words = h.words; result = h.result; name = q i }))))));
    }

-- a heading, its parameters and its groups
heading_row : (a b c d g : List ℕ) → (a ++ (b ++ (32 ∷ (c ++ 40 ∷ [])))) ++ ((d ++ 41 ∷ []) ++ g) ≡ a ++ b ++ codes " " ++ c ++ codes "(" ++ d ++ codes ")" ++ g
heading_row a b c d g = simp append_assoc

abbrev pub heading_whole : Heading → List (List ℕ) → List (List ℕ) → List ℕ
heading_whole h params gs = spaced_words h.words ++ type_text h.result ++ codes " " ++ global_name_text h.name ++ codes "(" ++ comma_list params ++ codes ")" ++ all_led (codes " ") gs

pub heading_gives : (h : Heading) (params : List (List ℕ)) (gs : List (List ℕ)) (lh lp lg : List Bare) → Closes (heading_start h) lh → Gives (comma_list params ++ codes ")") lp → Gives (all_led (codes " ") gs) lg → Gives (heading_whole h params gs) (lh ++ (lp ++ lg))
heading_gives h params gs lh lp lg x y z = subst (λ t. Gives t (lh ++ (lp ++ lg))) (heading_row (spaced_words h.words) (type_text h.result) (global_name_text h.name) (comma_list params) (all_led (codes " ") gs)) (closes_gives x (gives_then y z (led_ended (codes " ") (λ rest. refl) gs)))

-- ---- parameters

number_bytes : (names : List (List ℕ)) → AreBytes (next_number names)
number_bytes names = decimal_bytes (length (filter is_digits names))

-- a parameter that takes a number where it has no name
pub record UnnumberedParts (u : Unnumbered) : Type 0 where
  pub ty : IsSpelled type_ u.0
  pub name : (number : List ℕ) → AreBytes number → AreBytes (name_or u.1 number)

name_bytes : (o : Option (List ℕ)) → (o ≡ None) ⊎ IsSpelled some_local o → (number : List ℕ) → AreBytes number → AreBytes (name_or o number)
name_bytes o (inl e) number h = subst (λ x. AreBytes (name_or x number)) (sym e) h
name_bytes o (inr g) number h = let a = good_then g in subst (λ x. AreBytes (name_or x number)) (sym (good_done a.rest)) (local_bytes (good_one a.front))

pub param_parts : (u : Unnumbered) → IsSpelled param u → UnnumberedParts u
param_parts u g =
    let a = good_then (good_then g).rest in
    let b = good_then (good_then a.rest).rest in
    subst UnnumberedParts (sym (good_done b.rest)) (record { ty = a.front; name = name_bytes b.value (good_maybe None some_local b.front) })

pub params_parts : (names : List (List ℕ)) (us : List Unnumbered) → AllByRecursion UnnumberedParts us → AllByRecursion FormedParam (params_behind names us)
params_parts names [] g = tt
params_parts names (u ∷ us) g = (record { name = g.0.name (next_number names) (number_bytes names); ty = g.0.ty }, params_parts (names ++ name_or u.1 (next_number names) ∷ []) us g.1)

-- a parameter as its text has it
abbrev pub present : Param → Unnumbered
present p = (p.ty, Some p.name)

pub params_same : (names : List (List ℕ)) (ps : List Param) → params_behind names (map present ps) ≡ ps
params_same names [] = refl
params_same names (p ∷ ps) = ap (λ l. p ∷ l) (params_same (names ++ p.name ∷ []) ps)

abbrev unnumbered_text : Unnumbered → List ℕ
unnumbered_text u = type_text u.0 ++ codes " " ++ local_text (name_or u.1 [])

texts_same : (ps : List Param) → map unnumbered_text (map present ps) ≡ map param_text ps
texts_same [] = refl
texts_same (p ∷ ps) = ap (λ l. param_text p ∷ l) (texts_same ps)

param_says : (p : Param) → FormedParam p → Says (unnumbered_text (present p)) param (present p)
param_says p g =
    let t = type_says p.ty g.ty in
    let Q : Unnumbered → Type 0 = λ u. u ≡ present p in
    let n : Says (local_text p.name) (maybe None some_local) (Some p.name) = says_right (done None) (says_last Some (says_token (gives_local p.name g.name) (shows_local p.name g.name))) in
    let ls = n.tokens in
    record {
      tokens = t.tokens ++ ls;
      lexed = subst (λ x. Gives x (t.tokens ++ ls)) (sym (append_assoc (type_text p.ty) (codes " ") (local_text p.name))) (gives_then t.lexed (closes_gives closes_space n.lexed) (λ rest e. refl));
      spelled = spelled_same {ls = []} {ms = t.tokens ++ ls} {v = tt} {Q = Q} (empty_dropped (any attribute_form))
          (spelled_same {ls = t.tokens} {ms = ls} {v = p.ty} {Q = Q} t.spelled
          (spelled_same {ls = []} {ms = ls} {v = tt} {Q = Q} (empty_dropped (any attribute_form))
          (spelled_as (append-nil ls) (spelled_same {ls = ls} {ms = []} {v = Some p.name} {Q = Q} n.spelled (spelled_done (present p) Q refl)))));
    }

params_say : (ps : List Param) → AllByRecursion FormedParam ps → AllSay unnumbered_text param (map present ps)
params_say [] g = tt
params_say (p ∷ ps) g = (param_says p g.0, params_say ps g.1)

pub params_says : (ps : List Param) → AllByRecursion FormedParam ps → Says (comma_list (map param_text ps) ++ codes ")") (list_to 41 param) (map present ps)
params_says ps g = subst (λ l. Says (comma_list l ++ codes ")") (list_to 41 param) (map present ps)) (texts_same ps) (says_closed unnumbered_text param (map present ps) (params_say ps g))
