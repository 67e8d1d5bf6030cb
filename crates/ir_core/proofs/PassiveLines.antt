-- The passive line at the front of a text is the one that scanning finds.
use Rattle.std.proofs.Common.{◌≡◌, ℕ, zero, suc, ◌+◌, ◌≤◌, ◌<◌, List, [], ◌∷◌, ◌++◌, length, take, drop, Contains, Bool, true, false, cond, not, ◌||◌, if◌then◌else◌, refl, sym, ap, ◌∙◌, subst, inl, inr, ◌⊎◌, arith, append_assoc, length-append, nat_lt, take_at}
use Rattle.std.proofs.lemmas.List.{take-append-drop, length-take-le, take-take}
use Rattle.std.proofs.lemmas.Bool.{ltb-true, lt-ltb}
use Rattle.std.proofs.lemmas.Slice.Eq.{bytes_eq-Decides}
use Rattle.ir_core.specs.Bytes.{Class, Blank, Bang, class_of, no_line_end, every}
use Rattle.ir_core.specs.Tokens.{IsMeta, passive_fronts, IsPassiveFront, EndsInNoBlank, IsPassive}
use Rattle.ir_core.specs.Scan.{run, class_at, meta_size, is_blank, is_gap, trimmed, begins_with, begins_with_one, is_meta_by, begins_with_meta, begins_passive, line_size, passive_size}
use Rattle.ir_core.proofs.Runs.{if_true, run_fits, run_every, run_taken, every_taken}
use Rattle.ir_core.proofs.Below.{meta_front}
use Rattle.ir_core.proofs.Standing.{meta_is}

-- ---- the blanks at the end

blank_is : (a : Class) → is_blank a ≡ true → a ≡ Blank
blank_is Blank e = refl
blank_is _ e = absurd (let f : false ≡ true = e in cc)

no_blank : (a : Class) → (a ≡ Blank → ⊥) → is_blank a ≡ false
no_blank Blank n = absurd (n refl)
no_blank _ n = refl

trim_by : (n m : ℕ) → m ≤ n → 0 < m → (h b : Bool) → nat_lt 0 n ≡ b → suc m ≤ cond b (n + 1) (cond h 0 1)
trim_by n m l s h true e = omega arith
trim_by n m l s h false e = let f : true ≡ false = sym (lt-ltb 0 n (omega arith)) ∙ e in absurd (cc)

-- a front that ends in no blank is kept
pub trimmed_bound : (before : List ℕ) (c : ℕ) (more : List ℕ) → (class_of c ≡ Blank → ⊥) → suc (length before) ≤ trimmed (before ++ c ∷ more)
trimmed_bound [] c more n = one (nat_lt 0 (trimmed more))
  where
    one : (b : Bool) → 1 ≤ cond b (trimmed more + 1) (cond (is_blank (class_of c)) 0 1)
    one true = omega arith
    one false = subst (λ h. 1 ≤ cond h 0 1) (sym (no_blank (class_of c) n)) (omega arith)
trimmed_bound (x ∷ before) c more n = trim_by (trimmed (before ++ c ∷ more)) (suc (length before)) (trimmed_bound before c more n) (omega arith) (is_blank (class_of x)) (nat_lt 0 (trimmed (before ++ c ∷ more))) refl

trim_fits_by : (n m : ℕ) → n ≤ m → (h b : Bool) → cond b (n + 1) (cond h 0 1) ≤ suc m
trim_fits_by n m l h true = omega arith
trim_fits_by n m l true false = omega arith
trim_fits_by n m l false false = omega arith

pub trimmed_fits : (xs : List ℕ) → trimmed xs ≤ length xs
trimmed_fits [] = omega arith
trimmed_fits (c ∷ cs) = trim_fits_by (trimmed cs) (length cs) (trimmed_fits cs) (is_blank (class_of c)) (nat_lt 0 (trimmed cs))

-- what is kept ends in no blank
trim_is_by : (c : ℕ) (cs : List ℕ) (n : ℕ) → (0 < n → EndsInNoBlank (take n cs)) → (h : Bool) → is_blank (class_of c) ≡ h → (b : Bool) → nat_lt 0 n ≡ b → 0 < cond b (n + 1) (cond h 0 1) → EndsInNoBlank (take (cond b (n + 1) (cond h 0 1)) (c ∷ cs))
trim_is_by c cs n k h f true e l =
    let r = k (ltb-true 0 n e) in
    (c ∷ r.0, r.1, ap (λ m. take m (c ∷ cs)) (let z : n + 1 ≡ suc n = omega arith in z) ∙ ap (λ (x : List ℕ). c ∷ x) r.2, r.3)
trim_is_by c cs n k true f false e l = absurd (omega arith)
trim_is_by c cs n k false f false e l = ([], c, refl, λ g. let z : true ≡ false = sym (ap is_blank g) ∙ f in cc)

trimmed_is : (xs : List ℕ) → 0 < trimmed xs → EndsInNoBlank (take (trimmed xs) xs)
trimmed_is [] l = absurd (omega arith)
trimmed_is (c ∷ cs) l = trim_is_by c cs (trimmed cs) (trimmed_is cs) (is_blank (class_of c)) refl (nat_lt 0 (trimmed cs)) refl l

-- ---- fronts

begins_itself : (front rest : List ℕ) → begins_with front (front ++ rest) ≡ true
begins_itself front rest = (bytes_eq-Decides front (take (length front) (front ++ rest))).1 (sym (take_at front rest (length front) refl))

begins_is : (front xs : List ℕ) → begins_with front xs ≡ true → (rest : List ℕ) × (xs ≡ front ++ rest)
begins_is front xs h = (drop (length front) xs, sym (take-append-drop (length front) xs) ∙ ap (λ (l : List ℕ). l ++ drop (length front) xs) (sym ((bytes_eq-Decides front (take (length front) xs)).0 h)))

one_begins : (fronts : List (List ℕ)) (front rest : List ℕ) → Contains fronts front → begins_with_one fronts (front ++ rest) ≡ true
one_begins [] front rest (k, l, e) = absurd (omega arith)
one_begins (f ∷ fs) front rest (zero, l, e) = if_true (begins_with f (front ++ rest)) true (begins_with_one fs (front ++ rest)) (subst (λ g. begins_with g (front ++ rest) ≡ true) (sym e) (begins_itself front rest))
one_begins (f ∷ fs) front rest (suc k, l, e) = by (begins_with f (front ++ rest)) (one_begins fs front rest (k, omega arith, e))
  where
    by : (b : Bool) → begins_with_one fs (front ++ rest) ≡ true → cond b true (begins_with_one fs (front ++ rest)) ≡ true
    by true h = refl
    by false h = h

one_is : (fronts : List (List ℕ)) (xs : List ℕ) → begins_with_one fronts xs ≡ true → (front rest : List ℕ) × Contains fronts front × (xs ≡ front ++ rest)
one_is [] xs h = absurd (let f : false ≡ true = h in cc)
one_is (f ∷ fs) xs h = by (one_is fs xs) (begins_with f xs) refl h
  where
    by : (begins_with_one fs xs ≡ true → (front rest : List ℕ) × Contains fs front × (xs ≡ front ++ rest)) → (b : Bool) → begins_with f xs ≡ b → cond b true (begins_with_one fs xs) ≡ true → (front rest : List ℕ) × Contains (f ∷ fs) front × (xs ≡ front ++ rest)
    by g true e k = let r = begins_is f xs e in (f, r.0, (0, omega arith, refl), r.1)
    by g false e k = let r = g k in (r.0, r.1, (suc r.2.0, (let l = r.2.1 in omega arith), r.2.2), r.3)

meta_begins : (front rest : List ℕ) → IsMeta front → begins_with_meta (front ++ rest) ≡ true
meta_begins [] rest r = absurd (let f = r.2 in cc)
meta_begins (c ∷ cs) rest r = let m = meta_front c (cs ++ rest) (c ∷ cs) rest r refl in ap (λ a. is_meta_by a (cs ++ rest)) m.0 ∙ lt-ltb 0 (meta_size (cs ++ rest)) m.1

meta_by_is : (c : ℕ) (cs : List ℕ) (a : Class) → class_of c ≡ a → is_meta_by a cs ≡ true → IsMeta (c ∷ take (meta_size cs) cs)
meta_by_is c cs Bang e h = (meta_is c cs e (ltb-true 0 (meta_size cs) h)).1
meta_by_is c cs _ e h = absurd (let f : false ≡ true = h in cc)

meta_parts : (xs : List ℕ) → begins_with_meta xs ≡ true → (front rest : List ℕ) × IsMeta front × (xs ≡ front ++ rest)
meta_parts [] h = absurd (let f : false ≡ true = h in cc)
meta_parts (c ∷ cs) h = (c ∷ take (meta_size cs) cs, drop (meta_size cs) cs, meta_by_is c cs (class_of c) refl h, ap (λ (l : List ℕ). c ∷ l) (sym (take-append-drop (meta_size cs) cs)))

or_is : (a b : Bool) → (a || b) ≡ true → (a ≡ true) ⊎ (b ≡ true)
or_is true b h = inl refl
or_is false b h = inr h

or_left : (a b : Bool) → a ≡ true → (a || b) ≡ true
or_left true b h = refl
or_left false b h = absurd (let f : false ≡ true = h in cc)

or_right : (a b : Bool) → b ≡ true → (a || b) ≡ true
or_right true b h = refl
or_right false b h = h

front_begins : (front rest : List ℕ) → IsPassiveFront front → begins_passive (front ++ rest) ≡ true
front_begins front rest (inl r) = or_left (begins_with_one passive_fronts (front ++ rest)) (begins_with_meta (front ++ rest)) (one_begins passive_fronts front rest r)
front_begins front rest (inr r) = or_right (begins_with_one passive_fronts (front ++ rest)) (begins_with_meta (front ++ rest)) (meta_begins front rest r)

front_is : (xs : List ℕ) → begins_passive xs ≡ true → (front rest : List ℕ) × IsPassiveFront front × (xs ≡ front ++ rest)
front_is xs h = elim (or_is (begins_with_one passive_fronts xs) (begins_with_meta xs) h) [
  | inl k ↦ let r = one_is passive_fronts xs k in (r.0, r.1, inl r.2, r.3)
  | inr k ↦ let r = meta_parts xs k in (r.0, r.1, inr r.2, r.3)
]

-- ---- the two laws

-- a list that is no longer than what is taken stays
pub kept_front : (n : ℕ) (xs rest : List ℕ) → length xs ≤ n → (more : List ℕ) × (take n (xs ++ rest) ≡ xs ++ more)
kept_front n [] rest l = (take n rest, refl)
kept_front zero (x ∷ xs) rest l = absurd (omega arith)
kept_front (suc n) (x ∷ xs) rest l = let q = kept_front n xs rest (omega arith) in (q.0, ap (λ (z : List ℕ). x ∷ z) q.1)

pub passive_some : (line : List ℕ) → IsPassive line → 0 < length line
passive_some line (front, rest, r, s, h, (before, c, k, n)) = let l = ap length k in let m = length-append before (c ∷ []) in omega arith

-- a passive line at the front is no longer than the one found
pub passive_bound : (text line rest : List ℕ) → IsPassive line → text ≡ line ++ rest → length line ≤ passive_size text
passive_bound text line rest (front, back, r, s, h, (before, c, k, n)) e =
    let t = run_taken no_line_end line rest h in
    let w : take (run no_line_end text) text ≡ line ++ t.0 = ap (λ (x : List ℕ). take (run no_line_end x) x) e ∙ t.1 in
    let a : line ++ t.0 ≡ before ++ c ∷ t.0 = ap (λ (x : List ℕ). x ++ t.0) k ∙ append_assoc before (c ∷ []) t.0 in
    let b : suc (length before) ≤ line_size text = subst (λ (x : List ℕ). suc (length before) ≤ trimmed x) (sym (w ∙ a)) (trimmed_bound before c t.0 n) in
    let m : length line ≡ length before + 1 = ap length k ∙ length-append before (c ∷ []) in
    let q = kept_front (line_size text) line rest (omega arith) in
    let z : take (line_size text) text ≡ front ++ (back ++ q.0) = ap (take (line_size text)) e ∙ q.1 ∙ ap (λ (x : List ℕ). x ++ q.0) s ∙ append_assoc front back q.0 in
    let y : passive_size text ≡ line_size text = if_true (begins_passive (take (line_size text) text)) (line_size text) 0 (ap begins_passive z ∙ front_begins front (back ++ q.0) r) in
    omega arith

-- and what is found is one
pub passive_is : (text : List ℕ) → 0 < passive_size text → (passive_size text ≤ length text) × IsPassive (take (passive_size text) text)
passive_is text s = by (begins_passive (take (line_size text) text)) refl s
  where
    n : ℕ
    n = line_size text

    run_all : run no_line_end text ≤ length text
    run_all = run_fits no_line_end text

    fits : n ≤ run no_line_end text
    fits = let f = trimmed_fits (take (run no_line_end text) text) in let t = length-take-le (run no_line_end text) text run_all in omega arith

    taken : take n (take (run no_line_end text) text) ≡ take n text
    taken = take-take n (run no_line_end text) text fits

    by : (b : Bool) → begins_passive (take n text) ≡ b → 0 < cond b n 0 → (cond b n 0 ≤ length text) × IsPassive (take (cond b n 0) text)
    by true e l =
        let r = front_is (take n text) e in
        let h = every_taken no_line_end n (take (run no_line_end text) text) (run_every no_line_end text) in
        let k = trimmed_is (take (run no_line_end text) text) l in
        let f = fits in
        let g = run_all in
        (omega arith, (r.0, r.1, r.2, r.3, ap (every no_line_end) (sym taken) ∙ h, subst EndsInNoBlank taken k))
    by false e l = absurd (omega arith)

-- ---- what begins no passive line

solid : List ℕ → Bool
solid [] = false
solid (c ∷ cs) = not (is_gap (class_of c))

all_solid : List (List ℕ) → Bool
all_solid [] = true
all_solid (front ∷ fronts) = if solid front then all_solid fronts else false

one_solid : (fronts : List (List ℕ)) (front : List ℕ) → all_solid fronts ≡ true → Contains fronts front → solid front ≡ true
unfolding all_solid
one_solid [] front h (k, l, e) = absurd (omega arith)
one_solid (f ∷ fs) front h (zero, l, e) = by (solid f) refl h
  where
    by : (b : Bool) → solid f ≡ b → cond b (all_solid fs) false ≡ true → solid front ≡ true
    by true q k = subst (λ g. solid g ≡ true) e q
    by false q k = absurd (let g : false ≡ true = k in cc)
one_solid (f ∷ fs) front h (suc k, l, e) = by (one_solid fs front) (solid f) h
  where
    by : (all_solid fs ≡ true → Contains fs front → solid front ≡ true) → (b : Bool) → cond b (all_solid fs) false ≡ true → solid front ≡ true
    by g true q = g q (k, omega arith, e)
    by g false q = absurd (let z : false ≡ true = q in cc)

solid_front : (front rest : List ℕ) → solid front ≡ true → is_gap (class_at (front ++ rest)) ≡ false
unfolding solid
solid_front [] rest h = absurd (let f : false ≡ true = h in cc)
solid_front (c ∷ cs) rest h = by (is_gap (class_of c)) h
  where
    by : (b : Bool) → not b ≡ true → b ≡ false
    by true e = absurd (let f : false ≡ true = e in cc)
    by false e = refl

passive_front_solid : (front : List ℕ) → IsPassiveFront front → solid front ≡ true
unfolding solid all_solid
passive_front_solid front (inl r) = one_solid passive_fronts front refl r
passive_front_solid front (inr (c, cs, s, e, r)) = ap solid s ∙ ap (λ a. not (is_gap a)) e

-- a passive line begins with no blank and with no comment
passive_no_gap : (line : List ℕ) → IsPassive line → is_gap (class_at line) ≡ false
passive_no_gap line (front, rest, r, s, h, b) = ap (λ (x : List ℕ). is_gap (class_at x)) s ∙ solid_front front rest (passive_front_solid front r)

-- so where a blank or a comment begins there is none
pub gap_no_passive : (c : ℕ) (cs : List ℕ) → is_gap (class_of c) ≡ true → passive_size (c ∷ cs) ≡ 0
gap_no_passive c cs e = by (passive_size (c ∷ cs)) refl
  where
    first : (n : ℕ) → 0 < n → class_at (take n (c ∷ cs)) ≡ class_of c
    first zero l = absurd (omega arith)
    first (suc n) l = refl

    by : (n : ℕ) → passive_size (c ∷ cs) ≡ n → n ≡ 0
    by zero z = refl
    by (suc n) z =
        let s : 0 < passive_size (c ∷ cs) = omega arith in
        let f : true ≡ false = sym (ap is_gap (first (passive_size (c ∷ cs)) s) ∙ e) ∙ passive_no_gap (take (passive_size (c ∷ cs)) (c ∷ cs)) (passive_is (c ∷ cs) s).1 in
        absurd (cc)
