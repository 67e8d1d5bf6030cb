-- What stands at many instructions: flags, orders and alignments.
use Rattle.std.proofs.Common.{◌≡◌, ℕ, ◌^◌, List, [], ◌∷◌, ◌++◌, append_assoc, Option, Some, None, Bool, true, false, refl, sym, ap, ◌∙◌, subst, inl, inr, ◌⊎◌, arith, codes, decimal, ◌==◌, if◌then◌else◌}
use Rattle.std.proofs.lemmas.Bool.{eqb-true}
use Rattle.std.proofs.lemmas.List.{append-nil}
use Rattle.ir_core.specs.declared.instructions.Flags.{Flags}
use Rattle.ir_core.specs.declared.instructions.Order.{Order}
use Rattle.ir_core.specs.Tokens.{Word}
use Rattle.ir_core.specs.Spell.{◌>>=◌, done, word}
use Rattle.ir_core.specs.Forms.{next, alignment}
use Rattle.ir_core.specs.Instructions.{next_alignment, flag, wrap_flags, exact_flag, no_flags, orders, scope, order, order_if}
use Rattle.ir_core.specs.Text.{is_word, word_if, flags_text, align_text, order_text, ordering_text, atomic_text}
use Rattle.ir_core.proofs.Runs.{by_test, if_true, if_false}
use Rattle.text_laws.specs.Spelling.{IsSpelled}
use Rattle.text_laws.proofs.Rows.{bare}
use Rattle.text_laws.proofs.Endings.{Ends}
use Rattle.text_laws.proofs.Joined.{gives_word}
use Rattle.text_laws.proofs.Spelled.{spelled_done, token_then, shows_word}
use Rattle.text_laws.proofs.Good.{good_then, good_done, good_maybe}
use Rattle.text_laws.proofs.Back.{Says, Ended, says_as, says_at, says_done, says_then, says_last, says_after, empty_maybe, says_space, says_comma, says_word, says_left, says_right}
use Rattle.text_laws.proofs.Names.{table_says}
use Rattle.text_laws.proofs.Types.{natural_says}

pub ended_then : (a b : List ℕ) → Ended a → Ended b → Ended (a ++ b)
ended_then a b h k rest e = subst Ends (sym (append_assoc a b rest)) (h (b ++ rest) (k rest e))

-- ---- flags

pub flag_says : (w : List ℕ) → is_word w ≡ true → (b : Bool) → Says (word_if b (32 ∷ w)) (flag w) b
flag_says w h true = says_space (says_right (done false) (record { tokens = bare Word w ∷ []; lexed = gives_word w h; spelled = token_then (shows_word w) (λ line u. spelled_done true (λ b. b ≡ true) refl) }))
flag_says w h false = says_left (word w >>= (λ line. done true)) (says_done false)

pub flag_ended : (w : List ℕ) (b : Bool) → Ended (word_if b (32 ∷ w))
flag_ended w true = λ rest e. refl
flag_ended w false = λ rest e. e

pub flags_ended : (f : Flags) → Ended (flags_text f)
flags_ended f = ended_then (word_if f.nuw (codes " nuw") ++ word_if f.nsw (codes " nsw")) (word_if f.exact (codes " exact")) (ended_then (word_if f.nuw (codes " nuw")) (word_if f.nsw (codes " nsw")) (flag_ended (codes "nuw") f.nuw) (flag_ended (codes "nsw") f.nsw)) (flag_ended (codes "exact") f.exact)

pub wrap_says : (f : Flags) → IsSpelled wrap_flags f → Says (flags_text f) wrap_flags f
wrap_says f g =
    let a = good_then g in
    let b = good_then a.rest in
    says_at flags_text wrap_flags (good_done b.rest)
    (says_as wrap_flags (record { nsw = b.value; nuw = a.value; exact = false }) (sym (append-nil (word_if a.value (codes " nuw") ++ word_if b.value (codes " nsw"))))
    (says_then a (flag_says (codes "nuw") refl a.value) (flag_ended (codes "nsw") b.value) (says_last (λ x. record { nsw = x; nuw = a.value; exact = false }) (flag_says (codes "nsw") refl b.value))))

pub exact_says : (f : Flags) → IsSpelled exact_flag f → Says (flags_text f) exact_flag f
exact_says f g =
    let a = good_then g in
    says_at flags_text exact_flag (good_done a.rest) (says_last (λ x. record { nsw = false; nuw = false; exact = x }) (flag_says (codes "exact") refl a.value))

pub no_flags_says : (f : Flags) → IsSpelled (done no_flags) f → Says (flags_text f) (done no_flags) f
no_flags_says f g = says_at flags_text (done no_flags) (good_done g) (says_done no_flags)

-- ---- alignments

pub align_ended : (n : ℕ) → Ended (align_text n)
align_ended n = by (n == 0)
  where
    by : (b : Bool) → Ended (if b then [] else codes ", align " ++ decimal n)
    by true = λ rest e. e
    by false = λ rest e. refl

pub align_says : (n : ℕ) → IsSpelled next_alignment n → Says (align_text n) next_alignment n
align_says n g = by_test (n == 0)
    (λ e. subst (λ t. Says t next_alignment n) (sym (if_true _ _ _ e)) (subst (Says [] next_alignment) (sym (eqb-true n 0 e)) (says_left (next alignment) (says_done 0))))
    (λ e. subst (λ t. Says t next_alignment n) (sym (if_false _ _ _ e)) (some e (good_maybe 0 (next alignment) g)))
  where
    some : (n == 0) ≡ false → (n ≡ 0) ⊎ IsSpelled (next alignment) n → Says (codes ", align " ++ decimal n) next_alignment n
    some e (inl z) = absurd (let f : true ≡ false = sym (ap (λ m. m == 0) z) ∙ e in cc)
    some e (inr h) = says_right (done 0) (says_comma (says_word (codes "align") refl (λ rest e. refl) (says_space (natural_says (2 ^ 32) (omega arith) n (good_then (good_then h).rest).rest))))

-- ---- orders

pub order_says : (o : Order) → IsSpelled order o → Says (order_text o) order o
order_says o g = let a = good_then g in says_after a (empty_maybe tt scope) (table_says order_text orders (refl, refl, (refl, refl, (refl, refl, (refl, refl, (refl, refl, (refl, refl, tt)))))) o a.rest)

-- the order of an access
pub record AccessSays (atomic : Bool) (o : Option Order) : Type 0 where
  pub word : atomic_text o ≡ word_if atomic (codes " atomic") ++ codes " "
  pub says : Says (ordering_text o) (order_if atomic) o
  pub ended : Ended (ordering_text o)

pub access_says : (atomic : Bool) (o : Option Order) → IsSpelled (order_if atomic) o → AccessSays atomic o
access_says true o g =
    let a = good_then g in
    subst (AccessSays true) (sym (good_done a.rest)) (record { word = refl; says = says_space (says_last Some (order_says a.value a.front)); ended = λ rest e. refl })
access_says false o g = subst (AccessSays false) (sym (good_done g)) (record { word = refl; says = says_done None; ended = λ rest e. e })
