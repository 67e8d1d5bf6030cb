-- Where a line ends, and where it is parted.
use Rattle.std.proofs.Common.{◌≡◌, ℕ, zero, suc, ◌+◌, ◌-◌, ◌<◌, List, [], ◌∷◌, length, take, drop, get_or, Option, Some, None, MatchOption, Bool, true, false, cond, ◌==◌, refl, sym, ap, ◌∙◌, arith}
use Rattle.std.proofs.lemmas.List.{take_rest}
use Rattle.std.specs.Str.{bytes_eq}
use Rattle.std.proofs.lemmas.Bool.Decides.{nat_tests}
use Rattle.memchr.specs.Find.{IsFirstByte, is_byte}
use Rattle.run_text.specs.Lines.{lines, with_first, behind}
use Rattle.run_text.specs.ScheduleText.{parted, onto_first}

is_other : (b : Bool) → (b ≡ true → ⊥) → b ≡ false
is_other true n = absurd (n refl)
is_other false n = refl

-- ---- what is behind a place

abbrev pub from : List ℕ → ℕ → List ℕ
from bytes at = take (length bytes - at) (drop at bytes)

-- ---- lines

ended : (text : List ℕ) (n : ℕ) → n < length text → ((k : ℕ) → k < n → (get_or text k 0 == 10) ≡ false) → (get_or text n 0 == 10) ≡ true → lines text ≡ take n text ∷ lines (drop (suc n) text)
ended [] n h before at = absurd (omega arith)
ended (c ∷ cs) zero h before at = ap (λ (b : Bool). cond b ([] ∷ lines cs) (with_first c (lines cs))) at
ended (c ∷ cs) (suc n) h before at =
    ap (λ (b : Bool). cond b ([] ∷ lines cs) (with_first c (lines cs))) (before 0 (omega arith))
    ∙ ap (with_first c) (ended cs n (omega arith) (λ k l. before (suc k) (omega arith)) at)

last : (c : ℕ) (cs : List ℕ) → ((k : ℕ) → k < length (c ∷ cs) → (get_or (c ∷ cs) k 0 == 10) ≡ false) → lines (c ∷ cs) ≡ (c ∷ cs) ∷ []
last c [] none = ap (λ (b : Bool). cond b ([] ∷ []) (with_first c [])) (none 0 (omega arith))
last c (d ∷ ds) none =
    ap (λ (b : Bool). cond b ([] ∷ lines (d ∷ ds)) (with_first c (lines (d ∷ ds)))) (none 0 (omega arith))
    ∙ ap (with_first c) (last d ds (λ k l. none (suc k) (omega arith)))

pub line_ended : (text : List ℕ) (n : ℕ) → IsFirstByte (is_byte 10) text (Some n) → lines text ≡ take n text ∷ lines (from text (n + 1))
line_ended text n h =
    let e : n + 1 ≡ suc n = omega arith in
    ended text n h.0.high (λ k l. is_other _ (h.0.before k (omega arith) l)) h.1 ∙ ap (λ m. take n text ∷ lines (drop m text)) (sym e) ∙ ap (λ l. take n text ∷ lines l) (sym (take_rest text (n + 1)))

drop_length : (text : List ℕ) → drop (length text) text ≡ []
drop_length [] = refl
drop_length (c ∷ cs) = drop_length cs

pub line_last : (text : List ℕ) → 0 < length text → IsFirstByte (is_byte 10) text None → lines text ≡ text ∷ lines (from text (length text))
line_last [] h none = absurd (omega arith)
line_last (c ∷ cs) h none = last c cs (λ k l. is_other _ (none k (omega arith) l)) ∙ ap (λ l. (c ∷ cs) ∷ lines l) (sym (take_rest (c ∷ cs) (length (c ∷ cs)) ∙ drop_length (c ∷ cs)))

-- ---- parts

parts : (line : List ℕ) (n : ℕ) → n < length line → ((k : ℕ) → k < n → (get_or line k 0 == 32) ≡ false) → (get_or line n 0 == 32) ≡ true → parted line ≡ Some (take n line, drop (suc n) line)
parts [] n h before at = absurd (omega arith)
parts (c ∷ cs) zero h before at = ap (λ (b : Bool). cond b (Some ([], cs)) (onto_first c (parted cs))) at
parts (c ∷ cs) (suc n) h before at =
    ap (λ (b : Bool). cond b (Some ([], cs)) (onto_first c (parted cs))) (before 0 (omega arith))
    ∙ ap (onto_first c) (parts cs n (omega arith) (λ k l. before (suc k) (omega arith)) at)

whole : (line : List ℕ) → ((k : ℕ) → k < length line → (get_or line k 0 == 32) ≡ false) → parted line ≡ None
whole [] none = refl
whole (c ∷ cs) none =
    ap (λ (b : Bool). cond b (Some ([], cs)) (onto_first c (parted cs))) (none 0 (omega arith))
    ∙ ap (onto_first c) (whole cs (λ k l. none (suc k) (omega arith)))

pub line_parted : (line : List ℕ) (n : ℕ) → IsFirstByte (is_byte 32) line (Some n) → parted line ≡ Some (take n line, from line (n + 1))
line_parted line n h =
    let e : n + 1 ≡ suc n = omega arith in
    parts line n h.0.high (λ k l. is_other _ (h.0.before k (omega arith) l)) h.1 ∙ ap (λ m. Some (take n line, drop m line)) (sym e) ∙ ap (λ l. Some (take n line, l)) (sym (take_rest line (n + 1)))

pub line_whole : (line : List ℕ) → IsFirstByte (is_byte 32) line None → parted line ≡ None
line_whole line none = whole line (λ k l. is_other _ (none k (omega arith) l))

-- ---- what comes behind first bytes

same_either_way : (a b : ℕ) → (a == b) ≡ (b == a)
same_either_way a b = grind (arith, nat_tests)

behind_cons : (c d : ℕ) (cs ds : List ℕ) → behind cs ds ≡ cond (bytes_eq (take (length cs) ds) cs) (Some (drop (length cs) ds)) None → (b : Bool) → (c == d) ≡ b → behind (c ∷ cs) (d ∷ ds) ≡ cond (bytes_eq (take (length (c ∷ cs)) (d ∷ ds)) (c ∷ cs)) (Some (drop (length (c ∷ cs)) (d ∷ ds))) None
behind_cons c d cs ds more true e = rw (e, sym (same_either_way c d) ∙ e) more
behind_cons c d cs ds more false e = rw (e, sym (same_either_way c d) ∙ e)

behind_more : (front line : List ℕ) → behind front line ≡ cond (bytes_eq (take (length front) line) front) (Some (drop (length front) line)) None
behind_more [] line = refl
behind_more (c ∷ cs) [] = refl
behind_more (c ∷ cs) (d ∷ ds) = behind_cons c d cs ds (behind_more cs ds) (c == d) refl

pub not_behind : (front line : List ℕ) → bytes_eq (take (length front) line) front ≡ false → behind front line ≡ None
not_behind front line e = behind_more front line ∙ ap (λ b. cond b (Some (drop (length front) line)) None) e

pub is_behind : (front line : List ℕ) → bytes_eq (take (length front) line) front ≡ true → behind front line ≡ Some (drop (length front) line)
is_behind front line e = behind_more front line ∙ ap (λ b. cond b (Some (drop (length front) line)) None) e

pub behind_found : {X : Type 0} (bytes : X → List ℕ) (front line : List ℕ) (r : Option X) → MatchOption r (bytes_eq (take (length front) line) front ≡ false) (λ x. (bytes_eq (take (length front) line) front ≡ true) × (bytes x ≡ drop (length front) line) × (length (bytes x) + length front ≡ length line)) → MatchOption r (behind front line ≡ None) (λ x. behind front line ≡ Some (bytes x))
behind_found bytes front line None h = not_behind front line h
behind_found bytes front line (Some x) h = is_behind front line h.0 ∙ ap Some (sym h.1)
