-- Instructions that give a value, but for calls: what spells one is spelled by its canonical text.
use Rattle.std.proofs.Common.{◌≡◌, ℕ, List, [], ◌∷◌, ◌++◌, append_assoc, map, Bool, true, false, refl, sym, ap, ◌∙◌, subst, codes}
use Rattle.ir_core.specs.declared.types.Ty.{Ty}
use Rattle.ir_core.specs.declared.instructions.Edge.{Edge}
use Rattle.ir_core.specs.declared.instructions.BinOp.{BinOp}
use Rattle.ir_core.specs.declared.instructions.CastOp.{CastOp}
use Rattle.ir_core.specs.declared.instructions.Flags.{Flags}
use Rattle.ir_core.specs.declared.instructions.Kind.{Kind}
use Rattle.ir_core.specs.declared.instructions.Kind.TheVariants.{Bin, ICmp, Cast, Select, Phi, Alloca, Load, Rmw, Gep}
use Rattle.ir_core.specs.Tokens.{Lexeme}
use Rattle.ir_core.specs.Spell.{done, word}
use Rattle.ir_core.specs.Forms.{typed, next}
use Rattle.ir_core.specs.Instructions.{binary, wrap_flags, exact_flag, no_flags, predicates, changes, edge, ValueForm, Wraps, Divides, Mixes, Compares, Casts, Selects, Phis, Allocas, Loads, Changes, Steps, value_words, value_form, value}
use Rattle.ir_core.specs.Text.{type_text, value_text, typed_text, local_text, bin_op_text, flags_text, pred_text, cast_text, rmw_text, order_text, word_if, align_text, atomic_text, ordering_text, edge_text, kind_text, all_led}
use Rattle.text_laws.specs.Spelling.{IsSpelled}
use Rattle.text_laws.proofs.Good.{good_then, good_done, good_many, all_behind}
use Rattle.text_laws.proofs.Back.{flat, Says, Ended, says_as, says_at, says_done, says_then, says_last, says_space, says_comma, says_mark, says_word, all_say, says_commas, led_ended}
use Rattle.text_laws.proofs.Names.{local_says, WordsAre, table_says}
use Rattle.text_laws.proofs.Types.{IsSized, type_says, type_sized}
use Rattle.text_laws.proofs.Values.{value_says, typed_says}
use Rattle.text_laws.proofs.Orders.{ended_then, flag_says, flag_ended, flags_ended, wrap_says, exact_says, no_flags_says, align_ended, align_says, order_says, access_says}

-- what a text spells behind a comma
pub good_next : {X : Type 0} {S : List Lexeme → X → Type 0} {x : X} → IsSpelled (next S) x → IsSpelled S x
good_next g = (good_then g).rest

-- the text of an instruction is its word and a text that is spelled behind it
pub record Behind (word : List ℕ) (S : List Lexeme → Kind → Type 0) (k : Kind) : Type 0 where
  pub body : List ℕ
  pub text : kind_text k ≡ word ++ body
  pub ended : Ended body
  pub says : Says body S k

-- the same of an instruction that is known
pub behind_at : {word : List ℕ} {S : List Lexeme → Kind → Type 0} {k l : Kind} → k ≡ l → Behind word S l → Behind word S k
behind_at {word = word} {S = S} e b = subst (Behind word S) (sym e) b

-- ---- numbers

binary_says : (op : BinOp) (F : List Lexeme → Flags → Type 0) → ((f : Flags) → IsSpelled F f → Says (flags_text f) F f) → (k : Kind) → IsSpelled (binary op F) k → Behind (bin_op_text op) (binary op F) k
binary_says op F law k g =
    let a = good_then g in
    let b = good_then a.rest in
    let c = good_then b.rest in
    let d = good_then c.rest in
    let f = a.value in
    let ty = b.value in
    let s = type_sized ty b.front in
    behind_at (good_done d.rest) (record {
      body = flags_text f ++ (codes " " ++ (type_text ty ++ (codes " " ++ (value_text ty c.value ++ (codes ", " ++ value_text ty d.value)))));
      text = flat (bin_op_text op) (flags_text f) (codes " " ∷ type_text ty ∷ codes " " ∷ value_text ty c.value ∷ codes ", " ∷ value_text ty d.value ∷ []);
      ended = ended_then (flags_text f) (codes " " ++ (type_text ty ++ (codes " " ++ (value_text ty c.value ++ (codes ", " ++ value_text ty d.value))))) (flags_ended f) (λ rest e. refl);
      says = says_then a (law f a.front) (λ rest e. refl) (says_space (says_then b (type_says ty b.front) (λ rest e. refl) (says_space (says_then c (value_says ty c.value s c.front) (λ rest e. refl)
          (says_last (Bin op f ty c.value) (says_comma (value_says ty d.value s (good_next d.front))))))));
    })

compare_says : (k : Kind) → IsSpelled (value_form Compares) k → Behind (codes "icmp") (value_form Compares) k
compare_says k g =
    let a = good_then g in
    let b = good_then a.rest in
    let c = good_then b.rest in
    let d = good_then c.rest in
    let ty = b.value in
    let s = type_sized ty b.front in
    behind_at (good_done d.rest) (record {
      body = codes " " ++ (pred_text a.value ++ (codes " " ++ (type_text ty ++ (codes " " ++ (value_text ty c.value ++ (codes ", " ++ value_text ty d.value))))));
      text = flat (codes "icmp ") (pred_text a.value) (codes " " ∷ type_text ty ∷ codes " " ∷ value_text ty c.value ∷ codes ", " ∷ value_text ty d.value ∷ []);
      ended = λ rest e. refl;
      says = says_space (says_then a (table_says pred_text predicates (refl, refl, (refl, refl, (refl, refl, (refl, refl, (refl, refl, (refl, refl, (refl, refl, (refl, refl, (refl, refl, (refl, refl, tt)))))))))) a.value a.front) (λ rest e. refl)
          (says_space (says_then b (type_says ty b.front) (λ rest e. refl) (says_space (says_then c (value_says ty c.value s c.front) (λ rest e. refl)
          (says_last (ICmp a.value ty c.value) (says_comma (value_says ty d.value s (good_next d.front)))))))));
    })

cast_says : (op : CastOp) (k : Kind) → IsSpelled (value_form (Casts op)) k → Behind (cast_text op) (value_form (Casts op)) k
cast_says op k g =
    let a = good_then g in
    let b = good_then a.rest in
    let c = good_then b.rest in
    behind_at (good_done c.rest) (record {
      body = codes " " ++ (typed_text a.value ++ (codes " to " ++ type_text c.value));
      text = flat (cast_text op) (codes " ") (typed_text a.value ∷ codes " to " ∷ type_text c.value ∷ []);
      ended = λ rest e. refl;
      says = says_space (says_then a (typed_says a.value a.front) (λ rest e. refl) (says_space (says_word (codes "to") refl (λ rest e. refl) (says_space (says_last (Cast op a.value) (type_says c.value c.front))))));
    })

select_says : (k : Kind) → IsSpelled (value_form Selects) k → Behind (codes "select") (value_form Selects) k
select_says k g =
    let a = good_then g in
    let b = good_then a.rest in
    let c = good_then b.rest in
    behind_at (good_done c.rest) (record {
      body = codes " " ++ (typed_text a.value ++ (codes ", " ++ (typed_text b.value ++ (codes ", " ++ typed_text c.value))));
      text = flat (codes "select ") (typed_text a.value) (codes ", " ∷ typed_text b.value ∷ codes ", " ∷ typed_text c.value ∷ []);
      ended = λ rest e. refl;
      says = says_space (says_then a (typed_says a.value a.front) (λ rest e. refl) (says_then b (says_comma (typed_says b.value (good_next b.front))) (λ rest e. refl) (says_last (Select a.value b.value) (says_comma (typed_says c.value (good_next c.front))))));
    })

-- ---- phis

edge_says : (ty : Ty) → IsSized ty → (e : Edge) → IsSpelled (edge ty) e → Says (edge_text ty e) (edge ty) e
edge_says ty s e g =
    let a = good_then (good_then g).rest in
    let b = good_then a.rest in
    says_at (edge_text ty) (edge ty) (good_done (good_then b.rest).rest)
    (says_as (edge ty) (record { value = a.value; block = b.value }) (sym (flat (codes "[ ") (value_text ty a.value) (codes ", " ∷ local_text b.value ∷ codes " ]" ∷ [])))
    (says_mark 91 refl refl (says_space (says_then a (value_says ty a.value s a.front) (λ rest e. refl) (says_then b (says_comma (local_says b.value (good_next b.front))) (λ rest e. refl) (says_space (says_mark 93 refl refl (says_done (record { value = a.value; block = b.value })))))))))

phi_says : (k : Kind) → IsSpelled (value_form Phis) k → Behind (codes "phi") (value_form Phis) k
phi_says k g =
    let a = good_then g in
    let b = good_then a.rest in
    let c = good_then b.rest in
    let ty = a.value in
    let s = type_sized ty a.front in
    let edges = all_say (edge_text ty) (edge ty) (edge_says ty s) c.value (all_behind (edge ty) c.value (good_many (next (edge ty)) c.value c.front)) in
    behind_at (good_done c.rest) (record {
      body = codes " " ++ (type_text ty ++ (codes " " ++ (edge_text ty b.value ++ all_led (codes ", ") (map (edge_text ty) c.value))));
      text = flat (codes "phi ") (type_text ty) (codes " " ∷ (edge_text ty b.value ++ all_led (codes ", ") (map (edge_text ty) c.value)) ∷ []);
      ended = λ rest e. refl;
      says = says_space (says_then a (type_says ty a.front) (λ rest e. refl) (says_space (says_then b (edge_says ty s b.value b.front) (led_ended (codes ", ") (λ rest. refl) (map (edge_text ty) c.value)) (says_last (λ es. Phi ty (b.value ∷ es)) (says_commas (edge_text ty) (edge ty) c.value edges)))));
    })

-- ---- memory

alloca_says : (k : Kind) → IsSpelled (value_form Allocas) k → Behind (codes "alloca") (value_form Allocas) k
alloca_says k g =
    let a = good_then g in
    let b = good_then a.rest in
    behind_at (good_done b.rest) (record {
      body = codes " " ++ (type_text a.value ++ align_text b.value);
      text = flat (codes "alloca ") (type_text a.value) (align_text b.value ∷ []);
      ended = λ rest e. refl;
      says = says_space (says_then a (type_says a.value a.front) (align_ended b.value) (says_last (Alloca a.value) (align_says b.value b.front)));
    })

load_says : (k : Kind) → IsSpelled (value_form Loads) k → Behind (codes "load") (value_form Loads) k
load_says k g =
    let a = good_then g in
    let b = good_then a.rest in
    let c = good_then b.rest in
    let d = good_then c.rest in
    let e = good_then d.rest in
    let o = access_says a.value d.value d.front in
    let rest_text : List ℕ = type_text b.value ++ (codes ", " ++ (typed_text c.value ++ (ordering_text d.value ++ align_text e.value))) in
    let text : kind_text (Load b.value c.value d.value e.value) ≡ codes "load" ++ (atomic_text d.value ++ rest_text) = flat (codes "load") (atomic_text d.value) (type_text b.value ∷ codes ", " ∷ typed_text c.value ∷ ordering_text d.value ∷ align_text e.value ∷ []) in
    behind_at (good_done e.rest) (record {
      body = word_if a.value (codes " atomic") ++ (codes " " ++ rest_text);
      text = text ∙ ap (λ t. codes "load" ++ (t ++ rest_text)) o.word ∙ ap (λ t. codes "load" ++ t) (append_assoc (word_if a.value (codes " atomic")) (codes " ") rest_text);
      ended = ended_then (word_if a.value (codes " atomic")) (codes " " ++ rest_text) (flag_ended (codes "atomic") a.value) (λ rest e. refl);
      says = says_then a (flag_says (codes "atomic") refl a.value) (λ rest e. refl) (says_space (says_then b (type_says b.value b.front) (λ rest e. refl) (says_then c (says_comma (typed_says c.value (good_next c.front))) (ended_then (ordering_text d.value) (align_text e.value) o.ended (align_ended e.value))
          (says_then d o.says (align_ended e.value) (says_last (Load b.value c.value d.value) (align_says e.value e.front))))));
    })

change_says : (k : Kind) → IsSpelled (value_form Changes) k → Behind (codes "atomicrmw") (value_form Changes) k
change_says k g =
    let a = good_then g in
    let b = good_then a.rest in
    let c = good_then b.rest in
    let d = good_then c.rest in
    let e = good_then d.rest in
    behind_at (good_done e.rest) (record {
      body = codes " " ++ (rmw_text a.value ++ (codes " " ++ (typed_text b.value ++ (codes ", " ++ (typed_text c.value ++ (codes " " ++ (order_text d.value ++ align_text e.value)))))));
      text = flat (codes "atomicrmw ") (rmw_text a.value) (codes " " ∷ typed_text b.value ∷ codes ", " ∷ typed_text c.value ∷ codes " " ∷ order_text d.value ∷ align_text e.value ∷ []);
      ended = λ rest e. refl;
      says = says_space (says_then a (table_says rmw_text changes (refl, refl, (refl, refl, (refl, refl, (refl, refl, (refl, refl, (refl, refl, (refl, refl, (refl, refl, (refl, refl, (refl, refl, (refl, refl, tt))))))))))) a.value a.front) (λ rest e. refl)
          (says_space (says_then b (typed_says b.value b.front) (λ rest e. refl) (says_then c (says_comma (typed_says c.value (good_next c.front))) (λ rest e. refl)
          (says_space (says_then d (order_says d.value d.front) (align_ended e.value) (says_last (Rmw a.value b.value c.value d.value) (align_says e.value e.front))))))));
    })

inbounds_word : (b : Bool) → codes " " ++ word_if b (codes "inbounds ") ≡ word_if b (codes " inbounds") ++ codes " "
inbounds_word true = refl
inbounds_word false = refl

step_says : (k : Kind) → IsSpelled (value_form Steps) k → Behind (codes "getelementptr") (value_form Steps) k
step_says k g =
    let a = good_then g in
    let b = good_then a.rest in
    let c = good_then b.rest in
    let d = good_then c.rest in
    let e = good_then d.rest in
    let path = all_say typed_text typed typed_says e.value (all_behind typed e.value (good_many (next typed) e.value e.front)) in
    let more : List ℕ = all_led (codes ", ") (map typed_text e.value) in
    let rest_text : List ℕ = type_text b.value ++ (codes ", " ++ (typed_text c.value ++ (codes ", " ++ (typed_text d.value ++ more)))) in
    let text : kind_text (Gep a.value b.value c.value (d.value ∷ e.value)) ≡ codes "getelementptr" ++ ((codes " " ++ word_if a.value (codes "inbounds ")) ++ rest_text) = flat (codes "getelementptr ") (word_if a.value (codes "inbounds ")) (type_text b.value ∷ codes ", " ∷ typed_text c.value ∷ (codes ", " ++ (typed_text d.value ++ more)) ∷ []) in
    behind_at (good_done e.rest) (record {
      body = word_if a.value (codes " inbounds") ++ (codes " " ++ rest_text);
      text = text ∙ ap (λ t. codes "getelementptr" ++ (t ++ rest_text)) (inbounds_word a.value) ∙ ap (λ t. codes "getelementptr" ++ t) (append_assoc (word_if a.value (codes " inbounds")) (codes " ") rest_text);
      ended = ended_then (word_if a.value (codes " inbounds")) (codes " " ++ rest_text) (flag_ended (codes "inbounds") a.value) (λ rest e. refl);
      says = says_then a (flag_says (codes "inbounds") refl a.value) (λ rest e. refl) (says_space (says_then b (type_says b.value b.front) (λ rest e. refl) (says_then c (says_comma (typed_says c.value (good_next c.front))) (λ rest e. refl)
          (says_then d (says_comma (typed_says d.value (good_next d.front))) (led_ended (codes ", ") (λ rest. refl) (map typed_text e.value)) (says_last (λ es. Gep a.value b.value c.value (d.value ∷ es)) (says_commas typed_text typed e.value path))))));
    })

-- ---- by the word

abbrev form_word : ValueForm → List ℕ
form_word (Wraps op) = bin_op_text op
form_word (Divides op) = bin_op_text op
form_word (Mixes op) = bin_op_text op
form_word Compares = codes "icmp"
form_word (Casts op) = cast_text op
form_word Selects = codes "select"
form_word Phis = codes "phi"
form_word Allocas = codes "alloca"
form_word Loads = codes "load"
form_word Changes = codes "atomicrmw"
form_word Steps = codes "getelementptr"

form_behind : (form : ValueForm) (k : Kind) → IsSpelled (value_form form) k → Behind (form_word form) (value_form form) k
form_behind (Wraps op) k g = binary_says op wrap_flags wrap_says k g
form_behind (Divides op) k g = binary_says op exact_flag exact_says k g
form_behind (Mixes op) k g = binary_says op (done no_flags) no_flags_says k g
form_behind Compares k g = compare_says k g
form_behind (Casts op) k g = cast_says op k g
form_behind Selects k g = select_says k g
form_behind Phis k g = phi_says k g
form_behind Allocas k g = alloca_says k g
form_behind Loads k g = load_says k g
form_behind Changes k g = change_says k g
form_behind Steps k g = step_says k g

words_are : WordsAre form_word value_words
words_are = (
  refl,
  refl,
  (
    refl,
    refl,
    (
      refl,
      refl,
      (
        refl,
        refl,
        (
          refl,
          refl,
          (
            refl,
            refl,
            (
              refl,
              refl,
              (
                refl,
                refl,
                (
                  refl,
                  refl,
                  (
                    refl,
                    refl,
                    (
                      refl,
                      refl,
                      (
                        refl,
                        refl,
                        (
                          refl,
                          refl,
                          (refl, refl, (refl, refl, (refl, refl, (refl, refl, (refl, refl, (refl, refl, (refl, refl, (refl, refl, (refl, refl, (refl, refl, (refl, refl, (refl, refl, tt)))))))))))),
                        ),
                      ),
                    ),
                  ),
                ),
              ),
            ),
          ),
        ),
      ),
    ),
  ),
)

-- what gives a value
pub value_kind_says : (k : Kind) → IsSpelled value k → Says (kind_text k) value k
value_kind_says k g =
    let a = good_then g in
    let b = form_behind a.value k a.rest in
    says_as value k (sym b.text) (says_then a (table_says form_word value_words words_are a.value a.front) b.ended b.says)
