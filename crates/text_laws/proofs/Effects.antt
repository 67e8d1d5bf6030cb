-- Instructions without a value, and those that end a block: what spells one is spelled by its canonical text.
use Rattle.std.proofs.Common.{◌≡◌, ℕ, List, [], ◌∷◌, ◌++◌, append_assoc, map, Some, None, refl, sym, ap, ◌∙◌, inl, inr, ◌⊎◌, codes}
use Rattle.ir_core.specs.declared.instructions.Case.{Case}
use Rattle.ir_core.specs.declared.instructions.Kind.{Kind}
use Rattle.ir_core.specs.declared.instructions.Kind.TheVariants.{Store, Fence, Br, CondBr, Switch, Ret, Unreachable}
use Rattle.ir_core.specs.Tokens.{Lexeme}
use Rattle.ir_core.specs.Spell.{◌>>=◌, done, any, many, word}
use Rattle.ir_core.specs.Forms.{typed}
use Rattle.ir_core.specs.Instructions.{stored, fenced, case, BranchForm, Straight, Tested, branch_form, switched, returned, LastForm, Branches, Switches, Returns, Stops, last_form}
use Rattle.ir_core.specs.Text.{typed_text, target_text, word_if, align_text, atomic_text, ordering_text, order_text, case_text, kind_text, in_spaces}
use Rattle.text_laws.specs.Spelling.{IsSpelled}
use Rattle.text_laws.proofs.Joined.{gives_then}
use Rattle.text_laws.proofs.Good.{good_then, good_done, good_any, good_either, good_many}
use Rattle.text_laws.proofs.Back.{flat, Says, AllSay, says_as, says_at, says_done, says_then, says_last, says_space, says_comma, says_mark, says_word, says_any, all_say, says_nil, says_spaced, spelled_cons, led_ended, spaced_gives, says_left, says_right}
use Rattle.text_laws.proofs.Values.{typed_says, target_says}
use Rattle.text_laws.proofs.Orders.{ended_then, flag_says, flag_ended, align_ended, align_says, order_says, access_says}
use Rattle.text_laws.proofs.ValueKinds.{good_next, Behind, behind_at}

-- ---- stores and fences

pub store_says : (k : Kind) → IsSpelled stored k → Behind (codes "store") stored k
store_says k g =
    let a = good_then g in
    let b = good_then a.rest in
    let c = good_then b.rest in
    let d = good_then c.rest in
    let e = good_then d.rest in
    let o = access_says a.value d.value d.front in
    let rest_text : List ℕ = typed_text b.value ++ (codes ", " ++ (typed_text c.value ++ (ordering_text d.value ++ align_text e.value))) in
    let text : kind_text (Store b.value c.value d.value e.value) ≡ codes "store" ++ (atomic_text d.value ++ rest_text) = flat (codes "store") (atomic_text d.value) (typed_text b.value ∷ codes ", " ∷ typed_text c.value ∷ ordering_text d.value ∷ align_text e.value ∷ []) in
    behind_at (good_done e.rest) (record {
      body = word_if a.value (codes " atomic") ++ (codes " " ++ rest_text);
      text = text ∙ ap (λ t. codes "store" ++ (t ++ rest_text)) o.word ∙ ap (λ t. codes "store" ++ t) (append_assoc (word_if a.value (codes " atomic")) (codes " ") rest_text);
      ended = ended_then (word_if a.value (codes " atomic")) (codes " " ++ rest_text) (flag_ended (codes "atomic") a.value) (λ rest e. refl);
      says = says_then a (flag_says (codes "atomic") refl a.value) (λ rest e. refl) (says_space (says_then b (typed_says b.value b.front) (λ rest e. refl) (says_then c (says_comma (typed_says c.value (good_next c.front))) (ended_then (ordering_text d.value) (align_text e.value) o.ended (align_ended e.value))
          (says_then d o.says (align_ended e.value) (says_last (Store b.value c.value d.value) (align_says e.value e.front))))));
    })

pub fence_says : (k : Kind) → IsSpelled fenced k → Behind (codes "fence") fenced k
fence_says k g =
    let a = good_then g in
    behind_at (good_done a.rest) (record { body = codes " " ++ order_text a.value; text = refl; ended = λ rest e. refl; says = says_space (says_last Fence (order_says a.value a.front)) })

-- ---- branches

branch_says : (form : BranchForm) (k : Kind) → IsSpelled (branch_form form) k → Behind (codes "br") (branch_form form) k
branch_says Straight k g =
    let a = good_then g in
    behind_at (good_done a.rest) (record { body = codes " " ++ target_text a.value; text = refl; ended = λ rest e. refl; says = says_space (says_last Br (target_says a.value a.front)) })
branch_says Tested k g =
    let a = good_then g in
    let b = good_then a.rest in
    let c = good_then b.rest in
    behind_at (good_done c.rest) (record {
      body = codes " " ++ (typed_text a.value ++ (codes ", " ++ (target_text b.value ++ (codes ", " ++ target_text c.value))));
      text = flat (codes "br ") (typed_text a.value) (codes ", " ∷ target_text b.value ∷ codes ", " ∷ target_text c.value ∷ []);
      ended = λ rest e. refl;
      says = says_space (says_then a (typed_says a.value a.front) (λ rest e. refl) (says_then b (says_comma (target_says b.value (good_next b.front))) (λ rest e. refl) (says_last (CondBr a.value b.value) (says_comma (target_says c.value (good_next c.front))))));
    })

-- ---- switches

case_says : (c : Case) → IsSpelled case c → Says (case_text c) case c
case_says c g =
    let a = good_then g in
    let b = good_then a.rest in
    says_at case_text case (good_done b.rest)
    (says_as case (record { value = a.value; block = b.value }) (sym (flat (typed_text a.value) (codes ", ") (target_text b.value ∷ [])))
    (says_then a (typed_says a.value a.front) (λ rest e. refl) (says_last (λ x. record { value = a.value; block = x }) (says_comma (target_says b.value (good_next b.front))))))

-- cases with a space on each side
cases_say : (cs : List Case) → AllSay case_text case cs → Says (in_spaces (codes " ") (map case_text cs)) (many case) cs
cases_say [] h = says_space (says_nil case)
cases_say (c ∷ cs) h =
    let r = says_spaced case_text case cs h.1 in
    let s = h.0 in
    record {
      tokens = s.tokens ++ r.tokens;
      lexed = spaced_gives (codes " ") (map case_text (c ∷ cs)) (s.tokens ++ r.tokens) (gives_then s.lexed r.lexed (led_ended (codes " ") (λ rest. refl) (map case_text cs)));
      spelled = spelled_cons s.spelled r.spelled;
    }

switch_says : (k : Kind) → IsSpelled switched k → Behind (codes "switch") switched k
switch_says k g =
    let a = good_then g in
    let b = good_then a.rest in
    let c = good_then (good_then b.rest).rest in
    let cases = in_spaces (codes " ") (map case_text c.value) in
    behind_at (good_done (good_then c.rest).rest) (record {
      body = codes " " ++ (typed_text a.value ++ (codes ", " ++ (target_text b.value ++ (codes " [" ++ (cases ++ codes "]")))));
      text = flat (codes "switch ") (typed_text a.value) (codes ", " ∷ target_text b.value ∷ codes " [" ∷ cases ∷ codes "]" ∷ []);
      ended = λ rest e. refl;
      says = says_space (says_then a (typed_says a.value a.front) (λ rest e. refl) (says_then b (says_comma (target_says b.value (good_next b.front))) (λ rest e. refl)
          (says_space (says_mark 91 refl refl (says_then c (cases_say c.value (all_say case_text case case_says c.value (good_many case c.value c.front))) (λ rest e. refl) (says_mark 93 refl refl (says_done (Switch a.value b.value c.value))))))));
    })

-- ---- returns

abbrev returns_void : List Lexeme → Kind → Type 0
returns_void = word (codes "void") >>= (λ nothing. done (Ret None))

abbrev returns_value : List Lexeme → Kind → Type 0
returns_value = typed >>= (λ v. done (Ret (Some v)))

return_says : (k : Kind) → IsSpelled returned k → Behind (codes "ret") returned k
return_says k g = by (good_either returns_void returns_value g)
  where
    by : IsSpelled returns_void k ⊎ IsSpelled returns_value k → Behind (codes "ret") returned k
    by (inl h) = behind_at (good_done (good_then h).rest) (record { body = codes " void"; text = refl; ended = λ rest e. refl; says = says_space (says_left returns_value (says_word (codes "void") refl (λ rest e. e) (says_done (Ret None)))) })
    by (inr h) = let a = good_then h in behind_at (good_done a.rest) (record { body = codes " " ++ typed_text a.value; text = refl; ended = λ rest e. refl; says = says_space (says_right returns_void (says_last (λ v. Ret (Some v)) (typed_says a.value a.front))) })

-- ---- what ends a block

abbrev pub last_word : LastForm → List ℕ
last_word Branches = codes "br"
last_word Switches = codes "switch"
last_word Returns = codes "ret"
last_word Stops = codes "unreachable"

any_branch : (k : Kind) (form : BranchForm) → Behind (codes "br") (branch_form form) k → Behind (codes "br") (any branch_form) k
any_branch k form b = record { body = b.body; text = b.text; ended = b.ended; says = says_any form b.says }

pub last_says : (form : LastForm) (k : Kind) → IsSpelled (last_form form) k → Behind (last_word form) (last_form form) k
last_says Branches k g = let f = good_any g in any_branch k f.0 (branch_says f.0 k f.1)
last_says Switches k g = switch_says k g
last_says Returns k g = return_says k g
last_says Stops k g = behind_at (good_done g) (record { body = []; text = refl; ended = λ rest e. e; says = says_done Unreachable })
