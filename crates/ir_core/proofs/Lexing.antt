-- The piece that `piece_at` gives is the one that stands at the front of a text.
use Rattle.std.proofs.Common.{◌≡◌, ℕ, zero, suc, ◌+◌, ◌-◌, ◌≤◌, ◌<◌, List, [], ◌∷◌, ◌++◌, length, take, drop, Option, Some, None, Bool, true, false, cond, refl, sym, ap, ◌∙◌, subst, inl, inr, ◌⊎◌, arith, append_assoc, length-drop, get_or, ◌==◌, ◌&&◌, take-add, drop-cons}
use Rattle.std.proofs.lemmas.List.{append-nil, drop-drop, take-append-drop, take-append-le, length-take-le}
use Rattle.std.proofs.lemmas.Bool.{eqb-true}
use Rattle.std.specs.Str.{bytes_eq}
use Rattle.std.proofs.lemmas.Slice.Eq.{bytes_eq-Decides}
use Rattle.ir_core.specs.Bytes.{Class, Blank, Semicolon, Other, class_of, no_line_end, every}
use Rattle.ir_core.specs.Tokens.{TokenKind, Word, Local, Global, Label, Number, Float, Text, CText, Group, Meta, Mark, Passive, Bad, Past, Token, IsPlain, IsPassive, Spot, text_start, is_outside, Is, behind, Piece, IsLongest, BeginsNone, IsBad, Pieces, line_ends, line_at, kept, tokens_from, is_bad_kind, has_bad}
use Rattle.ir_core.specs.Scan.{run, class_at, piece, bad_piece, is_gap, by_class, plain_at, passive_size, by_passive, piece_at, Reads, ReadsAll}
use Rattle.ir_core.proofs.Runs.{by_test, if_true, if_false, run_in, run_every, run_fits, every_first}
use Rattle.ir_core.proofs.Below.{Below, below_piece, below_longer, below, some_or_none}
use Rattle.ir_core.proofs.Standing.{Stands, stands, empty_is_none}
use Rattle.ir_core.proofs.PassiveLines.{passive_some, passive_bound, passive_is, gap_no_passive}

-- ---- passive lines and other pieces

-- a piece is a passive line, or another that begins as none
abbrev BeginsNoPassive : Spot → List ℕ → Type 0
BeginsNoPassive spot xs = is_outside spot ≡ true → (line rest : List ℕ) → IsPassive line → xs ≡ line ++ rest → ⊥

piece_cases : (spot : Spot) (kind : Option TokenKind) (xs : List ℕ) → Is spot kind xs → ((kind ≡ Some Passive) × (is_outside spot ≡ true) × IsPassive xs) ⊎ (IsPlain kind xs × BeginsNoPassive spot xs)
piece_cases spot None xs r = inr r
piece_cases spot (Some Word) xs r = inr r
piece_cases spot (Some Local) xs r = inr r
piece_cases spot (Some Global) xs r = inr r
piece_cases spot (Some Label) xs r = inr r
piece_cases spot (Some Number) xs r = inr r
piece_cases spot (Some Float) xs r = inr r
piece_cases spot (Some Text) xs r = inr r
piece_cases spot (Some CText) xs r = inr r
piece_cases spot (Some Group) xs r = inr r
piece_cases spot (Some Meta) xs r = inr r
piece_cases spot (Some (Mark m)) xs r = inr r
piece_cases spot (Some Passive) xs r = inl (refl, r.0, r.1)
piece_cases spot (Some Bad) xs r = inr r
piece_cases spot (Some Past) xs r = inr r

other_piece : (spot : Spot) (kind : Option TokenKind) (xs : List ℕ) → IsPlain kind xs → BeginsNoPassive spot xs → Is spot kind xs
other_piece spot None xs r n = (r, n)
other_piece spot (Some Word) xs r n = (r, n)
other_piece spot (Some Local) xs r n = (r, n)
other_piece spot (Some Global) xs r n = (r, n)
other_piece spot (Some Label) xs r n = (r, n)
other_piece spot (Some Number) xs r n = (r, n)
other_piece spot (Some Float) xs r n = (r, n)
other_piece spot (Some Text) xs r n = (r, n)
other_piece spot (Some CText) xs r n = (r, n)
other_piece spot (Some Group) xs r n = (r, n)
other_piece spot (Some Meta) xs r n = (r, n)
other_piece spot (Some (Mark m)) xs r n = (r, n)
other_piece spot (Some Passive) xs r n = absurd r
other_piece spot (Some Bad) xs r n = absurd r
other_piece spot (Some Past) xs r n = absurd r

pub bad_is_none : (spot : Spot) (xs : List ℕ) → Is spot (Some Bad) xs → ⊥
bad_is_none spot xs r = r.0

pub empty_is_no_piece : (spot : Spot) (kind : Option TokenKind) → Is spot kind [] → ⊥
empty_is_no_piece spot kind r = elim (piece_cases spot kind [] r) [
  | inl p ↦ let l = passive_some [] p.2 in omega arith
  | inr p ↦ empty_is_none kind p.0
]

-- where no passive line may stand, where none stands, and where one does
pub piece_inside : (spot : Spot) (text : List ℕ) → is_outside spot ≡ false → piece_at spot text ≡ plain_at text
piece_inside spot text e = if_false (is_outside spot) (by_passive (passive_size text) (plain_at text)) (plain_at text) e

pub piece_no_passive : (spot : Spot) (text : List ℕ) → passive_size text ≡ 0 → piece_at spot text ≡ plain_at text
piece_no_passive spot text z = by (is_outside spot)
  where
    by : (b : Bool) → cond b (by_passive (passive_size text) (plain_at text)) (plain_at text) ≡ plain_at text
    by true = ap (λ n. by_passive n (plain_at text)) z
    by false = refl

piece_passive : (spot : Spot) (text : List ℕ) → is_outside spot ≡ true → 0 < passive_size text → piece_at spot text ≡ piece (Some Passive) (passive_size text)
piece_passive spot text e s =
    if_true (is_outside spot) (by_passive (passive_size text) (plain_at text)) (plain_at text) e
    ∙ by_test (passive_size text == 0) (λ h. let k = eqb-true (passive_size text) 0 h in absurd (omega arith)) (λ h. if_false (passive_size text == 0) (plain_at text) (piece (Some Passive) (passive_size text)) h)

-- ---- no piece is longer than the one found

-- what is no shorter than the passive line there would begin with it
shorter : (spot : Spot) (text ys rest : List ℕ) → is_outside spot ≡ true → 0 < passive_size text → BeginsNoPassive spot ys → text ≡ ys ++ rest → length ys < passive_size text
shorter spot text ys rest o s n e =
    let m = passive_size text in
    let p = passive_is text s in
    let no : m ≤ length ys → ⊥ = λ l.
    let t : take m text ≡ take m ys = ap (take m) e ∙ take-append-le m ys rest l in
    n o (take m text) (drop m ys) p.1 (sym (take-append-drop m ys) ∙ ap (λ (x : List ℕ). x ++ drop m ys) (sym t)) in
    omega arith

below_inside : (spot : Spot) (kind : Option TokenKind) (c : ℕ) (cs ys rest : List ℕ) → is_outside spot ≡ false → Is spot kind ys → c ∷ cs ≡ ys ++ rest → Below (piece_at spot (c ∷ cs)) kind (length ys)
below_inside spot kind c cs ys rest o r e = subst (λ p. Below p kind (length ys)) (sym (piece_inside spot (c ∷ cs) o)) (elim (piece_cases spot kind ys r) [
  | inl p ↦ let f : true ≡ false = sym p.1 ∙ o in absurd (cc)
  | inr p ↦ below kind c cs ys rest p.0 e
])

below_outside : (spot : Spot) (kind : Option TokenKind) (c : ℕ) (cs ys rest : List ℕ) → is_outside spot ≡ true → Is spot kind ys → c ∷ cs ≡ ys ++ rest → (passive_size (c ∷ cs) ≡ 0) ⊎ (0 < passive_size (c ∷ cs)) → Below (piece_at spot (c ∷ cs)) kind (length ys)
below_outside spot kind c cs ys rest o r e (inl z) = subst (λ p. Below p kind (length ys)) (sym (piece_no_passive spot (c ∷ cs) z)) (elim (piece_cases spot kind ys r) [
  | inl p ↦ let b = passive_bound (c ∷ cs) ys rest p.2 e in let s = passive_some ys p.2 in absurd (omega arith)
  | inr p ↦ below kind c cs ys rest p.0 e
])
below_outside spot kind c cs ys rest o r e (inr s) = subst (λ p. Below p kind (length ys)) (sym (piece_passive spot (c ∷ cs) o s)) (elim (piece_cases spot kind ys r) [
  | inl p ↦ subst (λ k. Below (piece (Some Passive) (passive_size (c ∷ cs))) k (length ys)) (sym p.0) (below_piece (Some Passive) (length ys) (passive_size (c ∷ cs)) (passive_bound (c ∷ cs) ys rest p.2 e) (λ f. cc))
  | inr p ↦ below_longer kind (Some Passive) (length ys) (passive_size (c ∷ cs)) (shorter spot (c ∷ cs) ys rest o s p.1 e) (λ f. cc)
])

pub spot_below : (spot : Spot) (kind : Option TokenKind) (c : ℕ) (cs ys rest : List ℕ) → Is spot kind ys → c ∷ cs ≡ ys ++ rest → Below (piece_at spot (c ∷ cs)) kind (length ys)
spot_below spot kind c cs ys rest r e = by_test (is_outside spot) (λ o. below_outside spot kind c cs ys rest o r e (some_or_none (passive_size (c ∷ cs)))) (λ o. below_inside spot kind c cs ys rest o r e)

-- ---- what is found is a piece, or a byte that is called bad

abbrev SpotStands : Spot → List ℕ → Piece → Type 0
SpotStands spot text p = ((p.size ≤ length text) × Is spot p.kind (take p.size text)) ⊎ (p ≡ bad_piece)

stands_plain : (spot : Spot) (text : List ℕ) (p : Piece) → ((n : ℕ) → BeginsNoPassive spot (take n text)) → Stands text p → SpotStands spot text p
stands_plain spot text p n (inl s) = inl (s.0, other_piece spot p.kind (take p.size text) s.1 (n p.size))
stands_plain spot text p n (inr b) = inr b

spot_stands : (spot : Spot) (c : ℕ) (cs : List ℕ) → SpotStands spot (c ∷ cs) (piece_at spot (c ∷ cs))
spot_stands spot c cs = by_test (is_outside spot) (λ o. by o (some_or_none (passive_size (c ∷ cs)))) (λ o. subst (SpotStands spot (c ∷ cs)) (sym (piece_inside spot (c ∷ cs) o)) (stands_plain spot (c ∷ cs) (plain_at (c ∷ cs)) (λ n k. let f : true ≡ false = sym k ∙ o in absurd (cc)) (stands c cs (class_of c) refl)))
  where
    none : passive_size (c ∷ cs) ≡ 0 → (n : ℕ) → BeginsNoPassive spot (take n (c ∷ cs))
    none z n o line rest p e =
        let b = passive_bound (c ∷ cs) line (rest ++ drop n (c ∷ cs)) p (sym (take-append-drop n (c ∷ cs)) ∙ ap (λ (x : List ℕ). x ++ drop n (c ∷ cs)) e ∙ append_assoc line rest (drop n (c ∷ cs))) in
        let s = passive_some line p in
        omega arith

    by : is_outside spot ≡ true → (passive_size (c ∷ cs) ≡ 0) ⊎ (0 < passive_size (c ∷ cs)) → SpotStands spot (c ∷ cs) (piece_at spot (c ∷ cs))
    by o (inl z) = subst (SpotStands spot (c ∷ cs)) (sym (piece_no_passive spot (c ∷ cs) z)) (stands_plain spot (c ∷ cs) (plain_at (c ∷ cs)) (none z) (stands c cs (class_of c) refl))
    by o (inr s) = let p = passive_is (c ∷ cs) s in subst (SpotStands spot (c ∷ cs)) (sym (piece_passive spot (c ∷ cs) o s)) (inl (p.0, (o, p.1)))

-- ---- the two laws

-- the piece at the front is the longest, or none begins there
abbrev pub Found : Spot → List ℕ → Piece → Type 0
Found spot text p = IsLongest spot text p.kind p.size ⊎ ((p ≡ bad_piece) × (1 ≤ length text) × BeginsNone spot text)

pub found : (spot : Spot) (c : ℕ) (cs : List ℕ) → Found spot (c ∷ cs) (piece_at spot (c ∷ cs))
found spot c cs = elim (spot_stands spot c cs) [
  | inl s ↦ inl (record { inside = s.0; is = s.1; longest = λ kind front rest i e. (spot_below spot kind c cs front rest i e).fits })
  | inr b ↦ inr (b, omega arith, λ kind front rest i e. (spot_below spot kind c cs front rest i e).good (ap (λ (p : Piece). p.kind) b))
]

same_piece : (p q : Piece) → p.kind ≡ q.kind → p.size ≡ q.size → p ≡ q
same_piece p q a b = λ i. record { kind = a i; size = b i }

both_found : (spot : Spot) (c : ℕ) (cs : List ℕ) (p q : Piece) → q ≡ piece_at spot (c ∷ cs) → Found spot (c ∷ cs) p → Found spot (c ∷ cs) q → p ≡ q
both_found spot c cs p q e (inl a) (inl b) =
    let t = length-take-le p.size (c ∷ cs) a.inside in
    let u = length-take-le q.size (c ∷ cs) b.inside in
    let x = b.longest p.kind (take p.size (c ∷ cs)) (drop p.size (c ∷ cs)) a.is (sym (take-append-drop p.size (c ∷ cs))) in
    let y = a.longest q.kind (take q.size (c ∷ cs)) (drop q.size (c ∷ cs)) b.is (sym (take-append-drop q.size (c ∷ cs))) in
    let z : p.size ≡ q.size = omega arith in
    let f = spot_below spot p.kind c cs (take p.size (c ∷ cs)) (drop p.size (c ∷ cs)) a.is (sym (take-append-drop p.size (c ∷ cs))) in
    same_piece p q (sym (f.same (t ∙ z ∙ ap (λ (x : Piece). x.size) e)) ∙ ap (λ (x : Piece). x.kind) (sym e)) z
both_found spot c cs p q e (inl a) (inr b) = absurd (b.2 p.kind (take p.size (c ∷ cs)) (drop p.size (c ∷ cs)) a.is (sym (take-append-drop p.size (c ∷ cs))))
both_found spot c cs p q e (inr a) (inl b) = absurd (a.2 q.kind (take q.size (c ∷ cs)) (drop q.size (c ∷ cs)) b.is (sym (take-append-drop q.size (c ∷ cs))))
both_found spot c cs p q e (inr a) (inr b) = a.0 ∙ sym b.0

pub only : (spot : Spot) (c : ℕ) (cs : List ℕ) (p : Piece) → Found spot (c ∷ cs) p → p ≡ piece_at spot (c ∷ cs)
only spot c cs p f = both_found spot c cs p (piece_at spot (c ∷ cs)) refl f (found spot c cs)

none_at_end : (spot : Spot) (p : Piece) → Found spot [] p → ⊥
none_at_end spot p (inl a) = empty_is_no_piece spot p.kind (subst (Is spot p.kind) (let n = a.inside in let z : p.size ≡ 0 = omega arith in ap (λ n. take n []) z) a.is)
none_at_end spot p (inr a) = let n = a.1 in omega arith

pub first_piece : (spot : Spot) (text : List ℕ) (p q : Piece) → Found spot text p → Found spot text q → p ≡ q
first_piece spot [] p q f g = absurd (none_at_end spot p f)
first_piece spot (c ∷ cs) p q f g = only spot c cs p f ∙ sym (only spot c cs q g)

pub found_at : (spot : Spot) (text : List ℕ) → 0 < length text → Found spot text (piece_at spot text)
found_at spot [] l = absurd (omega arith)
found_at spot (c ∷ cs) l = found spot c cs

-- what scanning finds has some bytes, and no more than there are
pub size_fits : (spot : Spot) (text : List ℕ) → 0 < length text → (piece_at spot text).size ≤ length text
size_fits spot text l = elim (found_at spot text l) [
  | inl a ↦ a.inside
  | inr b ↦ let e = ap (λ (p : Piece). p.size) b.0 in omega arith
]

longest_some : (spot : Spot) (text : List ℕ) (p : Piece) → IsLongest spot text p.kind p.size → 0 < p.size
longest_some spot text p a = not_zero (take p.size text) a.is (length-take-le p.size text a.inside)
  where
    not_zero : (ys : List ℕ) → Is spot p.kind ys → length ys ≡ p.size → 0 < p.size
    not_zero [] i e = absurd (empty_is_no_piece spot p.kind i)
    not_zero (y ∷ ys) i e = omega arith

pub size_some : (spot : Spot) (text : List ℕ) → 0 < length text → 0 < (piece_at spot text).size
size_some spot text l = elim (found_at spot text l) [
  | inl a ↦ longest_some spot text (piece_at spot text) a
  | inr b ↦ let e = ap (λ (p : Piece). p.size) b.0 in omega arith
]

-- ---- the text determines the list of pieces

of_found : (spot : Spot) (text : List ℕ) (p : Piece) (ps : List Piece) → Pieces spot text (p ∷ ps) → Found spot text p
of_found spot text p ps (inl a) = inl a.0
of_found spot text p ps (inr a) = inr (a.0, a.2, a.3)

not_at_end : (spot : Spot) (text : List ℕ) (p : Piece) (ps : List Piece) → Pieces spot text (p ∷ ps) → text ≡ [] → ⊥
not_at_end spot text p ps a e = none_at_end spot p (subst (λ t. Found spot t p) e (of_found spot text p ps a))

-- a bad byte is no piece
bad_longest : (spot : Spot) (text : List ℕ) (p : Piece) → IsLongest spot text p.kind p.size → p ≡ bad_piece → ⊥
bad_longest spot text p a e = bad_is_none spot (take p.size text) (subst (λ k. Is spot k (take p.size text)) (ap (λ (q : Piece). q.kind) e) a.is)

pub same_pieces : (spot : Spot) (text : List ℕ) (ps qs : List Piece) → Pieces spot text ps → Pieces spot text qs → ps ≡ qs
same_pieces spot text [] [] a b = refl
same_pieces spot text [] (q ∷ qs) a b = absurd (not_at_end spot text q qs b a)
same_pieces spot text (p ∷ ps) [] a b = absurd (not_at_end spot text p ps a b)
same_pieces spot text (p ∷ ps) (q ∷ qs) (inl a) (inl b) =
    let e = first_piece spot text p q (inl a.0) (inl b.0) in
    ap (λ (x : Piece). x ∷ ps) e ∙ ap (λ (l : List Piece). q ∷ l) (same_pieces (behind spot q.kind (take q.size text)) (drop q.size text) ps qs (subst (λ (x : Piece). Pieces (behind spot x.kind (take x.size text)) (drop x.size text) ps) e a.1) b.1)
same_pieces spot text (p ∷ ps) (q ∷ qs) (inl a) (inr b) = absurd (bad_longest spot text p a.0 (first_piece spot text p q (inl a.0) (inr (b.0, b.2, b.3)) ∙ b.0))
same_pieces spot text (p ∷ ps) (q ∷ qs) (inr a) (inl b) = absurd (bad_longest spot text q b.0 (first_piece spot text q p (inl b.0) (inr (a.0, a.2, a.3)) ∙ a.0))
same_pieces spot text (p ∷ ps) (q ∷ qs) (inr a) (inr b) = ap (λ (x : Piece). x ∷ ps) (a.0 ∙ sym b.0) ∙ ap (λ (l : List Piece). q ∷ l) (a.1 ∙ sym b.1)

-- ---- line ends

pub line_ends-append : (xs ys : List ℕ) → line_ends (xs ++ ys) ≡ line_ends xs + line_ends ys
line_ends-append [] ys = let z : line_ends ys ≡ 0 + line_ends ys = omega arith in z
line_ends-append (x ∷ xs) ys = ap (λ k. cond (x == 10) (k + 1) k) (line_ends-append xs ys) ∙ by (x == 10)
  where
    by : (b : Bool) → cond b (line_ends xs + line_ends ys + 1) (line_ends xs + line_ends ys) ≡ cond b (line_ends xs + 1) (line_ends xs) + line_ends ys
    by true = omega arith
    by false = refl

pub line_moves : (text : List ℕ) (at n : ℕ) → line_at text (at + n) ≡ line_at text at + line_ends (take n (drop at text))
line_moves text at n =
    let e : line_ends (take (at + n) text) ≡ line_ends (take at text) + line_ends (take n (drop at text)) = ap line_ends (take-add at n text) ∙ line_ends-append (take at text) (take n (drop at text)) in
    omega arith

pub line_ends_fit : (xs : List ℕ) → line_ends xs ≤ length xs
line_ends_fit [] = omega arith
line_ends_fit (c ∷ cs) = by (c == 10) (line_ends cs) (line_ends_fit cs)
  where
    by : (b : Bool) (k : ℕ) → k ≤ length cs → cond b (k + 1) k ≤ suc (length cs)
    by true k l = omega arith
    by false k l = omega arith

pub no_end_none : (xs : List ℕ) → every no_line_end xs ≡ true → line_ends xs ≡ 0
no_end_none [] h = refl
no_end_none (c ∷ cs) h = let k = every_first no_line_end c cs h in by (c == 10) k.0 (no_end_none cs k.1)
  where
    by : (b : Bool) → cond b false true ≡ true → line_ends cs ≡ 0 → cond b (line_ends cs + 1) (line_ends cs) ≡ 0
    by true f z = cc
    by false f z = z

-- a byte of another class than blanks ends no line
class_no_end : (first : Class) (c : ℕ) → class_of c ≡ first → (Blank ≡ first → ⊥) → no_line_end c ≡ true
class_no_end first c e n = by (c == 10) refl
  where
    by : (b : Bool) → (c == 10) ≡ b → cond b false true ≡ true
    by true k = absurd (n (ap class_of (sym (eqb-true c 10 k)) ∙ e))
    by false k = refl

-- ---- piece after piece

pub reads_none : (text : List ℕ) (spot : Spot) (at : ℕ) → Reads text spot at spot at []
reads_none text spot at = record { goes_on = λ ps a. (ps, a, refl) }

pub reads_then : (text : List ℕ) (s t u : Spot) (a b c : ℕ) (ts us : List Token) → Reads text s a t b ts → Reads text t b u c us → Reads text s a u c (ts ++ us)
reads_then text s t u a b c ts us r q = record {
  goes_on = λ ps k.
      let m = q.goes_on ps k in
      let n = r.goes_on m.0 m.1 in
      (n.0, n.1, append_assoc ts us (tokens_from text c ps) ∙ ap (λ (l : List Token). ts ++ l) m.2 ∙ n.2);
}

pub reads_piece : (text : List ℕ) (spot : Spot) (at : ℕ) (p : Piece) → IsLongest spot (drop at text) p.kind p.size → Reads text spot at (behind spot p.kind (take p.size (drop at text))) (at + p.size) (kept text p.kind at (at + p.size))
reads_piece text spot at p a = record { goes_on = λ ps k. (p ∷ ps, inl (a, subst (λ t. Pieces (behind spot p.kind (take p.size (drop at text))) t ps) (sym (drop-drop p.size at text)) k), refl) }

pub reads_all : (text : List ℕ) (spot : Spot) (at : ℕ) (ts : List Token) → Reads text text_start 0 spot at ts → length text ≤ at → ReadsAll text ts
reads_all text spot at ts r l =
    let d : length (drop at text) ≡ length text - at = length-drop at text in
    let m = r.goes_on [] (empty (drop at text) (omega arith)) in
    (m.0, m.1, sym (append-nil ts) ∙ m.2)
  where
    empty : (xs : List ℕ) → length xs ≡ 0 → xs ≡ []
    empty [] e = refl
    empty (x ∷ xs) e = absurd (omega arith)

pub reads_to_bad : (text : List ℕ) (spot : Spot) (at : ℕ) (ts : List Token) → Reads text text_start 0 spot at ts → IsBad spot (drop at text) bad_piece [] → ReadsAll text (ts ++ kept text (Some Bad) at (at + 1))
reads_to_bad text spot at ts r b =
    let m = r.goes_on (bad_piece ∷ []) (inr b) in
    (m.0, m.1, ap (λ (l : List Token). ts ++ l) (sym (append-nil (kept text (Some Bad) at (at + 1)))) ∙ m.2)

pub same_reads : (text : List ℕ) (ts us : List Token) → ReadsAll text ts → ReadsAll text us → ts ≡ us
same_reads text ts us a b = a.2 ∙ ap (tokens_from text 0) (same_pieces text_start text a.0 b.0 a.1 b.1) ∙ sym b.2

-- ---- one piece on, from a place in the text

pub class_past : (n : ℕ) (text : List ℕ) → length text ≤ n → class_at (drop n text) ≡ Other
class_past zero [] l = refl
class_past (suc n) [] l = refl
class_past zero (c ∷ cs) l = absurd (omega arith)
class_past (suc n) (c ∷ cs) l = class_past n cs (omega arith)

pub class_inside : (text : List ℕ) (at : ℕ) (a : Class) → class_at (drop at text) ≡ a → (a ≡ Other → ⊥) → at < length text
class_inside text at a e n =
    let f : length text ≤ at → ⊥ = λ l. n (sym e ∙ class_past at text l) in
    omega arith

pub class_here : (n : ℕ) (text : List ℕ) → n < length text → class_at (drop n text) ≡ class_of (get_or text n 0)
class_here n text l = ap class_at (drop-cons text n 0 l)

pub not_bad : (spot : Spot) (xs : List ℕ) (p : Piece) → 0 < length xs → p ≡ piece_at spot xs → (p.kind ≡ Some Bad → ⊥) → IsLongest spot xs p.kind p.size
not_bad spot xs p l e n = by (subst (Found spot xs) (sym e) (found_at spot xs l))
  where
    by : Found spot xs p → IsLongest spot xs p.kind p.size
    by (inl a) = a
    by (inr b) = absurd (n (ap (λ (q : Piece). q.kind) b.0))

-- what scanning finds at a place is read there
pub reads_here : (text : List ℕ) (spot : Spot) (at : ℕ) (p : Piece) → at < length text → p ≡ piece_at spot (drop at text) → (p.kind ≡ Some Bad → ⊥) → Reads text spot at (behind spot p.kind (take p.size (drop at text))) (at + p.size) (kept text p.kind at (at + p.size))
reads_here text spot at p l e n =
    let d : length (drop at text) ≡ length text - at = length-drop at text in
    reads_piece text spot at p (not_bad spot (drop at text) p (omega arith) e n)

pub bad_here : (text : List ℕ) (spot : Spot) (at : ℕ) (p : Piece) → at < length text → p ≡ piece_at spot (drop at text) → p.kind ≡ Some Bad → (p ≡ bad_piece) × IsBad spot (drop at text) bad_piece []
bad_here text spot at p l e n =
    let d : length (drop at text) ≡ length text - at = length-drop at text in
    by (subst (Found spot (drop at text)) (sym e) (found_at spot (drop at text) (omega arith)))
  where
    by : Found spot (drop at text) p → (p ≡ bad_piece) × IsBad spot (drop at text) bad_piece []
    by (inl a) = absurd (bad_is_none spot (take p.size (drop at text)) (subst (λ k. Is spot k (take p.size (drop at text))) n a.is))
    by (inr b) = (b.0, (refl, refl, b.1, b.2))

pub size_fits_at : (text : List ℕ) (spot : Spot) (at : ℕ) (p : Piece) → at < length text → p ≡ piece_at spot (drop at text) → (0 < p.size) × (at + p.size ≤ length text)
size_fits_at text spot at p l e =
    let d : length (drop at text) ≡ length text - at = length-drop at text in
    let z = ap (λ (q : Piece). q.size) e in
    let s = size_some spot (drop at text) (omega arith) in
    let f = size_fits spot (drop at text) (omega arith) in
    (omega arith, omega arith)

-- ---- blanks and comments

at_class : (xs : List ℕ) (a : Class) → class_at xs ≡ a → (a ≡ Other → ⊥) → (c : ℕ) × (cs : List ℕ) × (xs ≡ c ∷ cs) × (class_of c ≡ a)
at_class [] a e n = absurd (n (sym e))
at_class (c ∷ cs) a e n = (c, cs, refl, e)

-- where a blank or a comment begins, scanning finds it
gap_piece : (spot : Spot) (c : ℕ) (cs : List ℕ) (a : Class) → class_of c ≡ a → is_gap a ≡ true → piece_at spot (c ∷ cs) ≡ by_class a c cs
gap_piece spot c cs a e g = piece_no_passive spot (c ∷ cs) (gap_no_passive c cs (ap is_gap e ∙ g)) ∙ ap (λ x. by_class x c cs) e

-- whether a blank ends its line
one_byte : (c : ℕ) → bytes_eq (c ∷ []) (10 ∷ []) ≡ (c == 10)
one_byte c = by (c == 10)
  where
    by : (b : Bool) → (b && true) ≡ b
    by true = refl
    by false = refl

-- the spot behind a blank
abbrev pub behind_blank : Spot → ℕ → Spot
behind_blank spot c = record { depth = spot.depth; first = cond (c == 10) true spot.first }

-- a blank
pub blank_reads : (text : List ℕ) (spot : Spot) (at : ℕ) → class_at (drop at text) ≡ Blank → Reads text spot at (behind_blank spot (get_or text at 0)) (at + 1) []
blank_reads text spot at e =
    let h = at_class (drop at text) Blank e (λ f. cc) in
    let p : piece None 1 ≡ piece_at spot (drop at text) = sym (ap (piece_at spot) h.2 ∙ gap_piece spot h.0 h.1 Blank h.3 refl) in
    let l = class_inside text at Blank e (λ f. cc) in
    let b : behind spot None (take 1 (drop at text)) ≡ behind_blank spot (get_or text at 0) = ap (λ (x : List ℕ). behind spot None (take 1 x)) (drop-cons text at 0 l) ∙ ap (λ t. record { depth = spot.depth; first = cond t true spot.first }) (one_byte (get_or text at 0)) in
    subst (λ t. Reads text spot at t (at + 1) []) b (reads_here text spot at (piece None 1) l p (λ f. cc))

pub blank_line : (text : List ℕ) (at c : ℕ) → at < length text → get_or text at 0 ≡ c → line_at text (at + 1) ≡ cond (c == 10) (line_at text at + 1) (line_at text at)
blank_line text at c l e =
    let m = line_moves text at 1 in
    let h = ap (λ (xs : List ℕ). line_ends (take 1 xs)) (drop-cons text at 0 l) in
    let k : line_ends (take 1 (drop at text)) ≡ cond (c == 10) (0 + 1) 0 = h ∙ ap (λ x. cond (x == 10) (0 + 1) 0) e in
    by (c == 10) (line_ends (take 1 (drop at text))) k m
  where
    by : (b : Bool) (n : ℕ) → n ≡ cond b (0 + 1) 0 → line_at text (at + 1) ≡ line_at text at + n → line_at text (at + 1) ≡ cond b (line_at text at + 1) (line_at text at)
    by true n k m = omega arith
    by false n k m = omega arith

-- a comment is no line end
comment_spot : (spot : Spot) (c : ℕ) (cs : List ℕ) → class_of c ≡ Semicolon → behind spot None (c ∷ cs) ≡ spot
comment_spot spot c cs e = ap (λ t. record { depth = spot.depth; first = cond t true spot.first }) (by_test (bytes_eq (c ∷ cs) (10 ∷ [])) (λ h. absurd (line h)) (λ h. h))
  where
    line : bytes_eq (c ∷ cs) (10 ∷ []) ≡ true → ⊥
    line h =
        let q : c ∷ cs ≡ 10 ∷ [] = (bytes_eq-Decides (c ∷ cs) (10 ∷ [])).0 h in
        let k : c ≡ 10 = cc in
        let f : Blank ≡ Semicolon = sym (ap class_of k) ∙ e in
        cc

-- a comment, which runs to the end of its line
pub comment_reads : (text : List ℕ) (spot : Spot) (at : ℕ) → class_at (drop at text) ≡ Semicolon → Reads text spot at spot (at + run no_line_end (drop at text)) []
comment_reads text spot at e =
    let h = at_class (drop at text) Semicolon e (λ f. cc) in
    let r : run no_line_end (drop at text) ≡ suc (run no_line_end h.1) = ap (run no_line_end) h.2 ∙ run_in no_line_end h.0 h.1 (class_no_end Semicolon h.0 h.3 (λ f. cc)) in
    let z : suc (run no_line_end h.1) ≡ run no_line_end h.1 + 1 = omega arith in
    let p : piece None (run no_line_end (drop at text)) ≡ piece_at spot (drop at text) = ap (piece None) (r ∙ z) ∙ sym (ap (piece_at spot) h.2 ∙ gap_piece spot h.0 h.1 Semicolon h.3 refl) in
    let b : behind spot None (take (run no_line_end (drop at text)) (drop at text)) ≡ spot = ap (λ (x : List ℕ). behind spot None (take (run no_line_end (drop at text)) x)) h.2 ∙ ap (λ n. behind spot None (take n (h.0 ∷ h.1))) r ∙ comment_spot spot h.0 (take (run no_line_end h.1) h.1) h.3 in
    subst (λ t. Reads text spot at t (at + run no_line_end (drop at text)) []) b (reads_here text spot at (piece None (run no_line_end (drop at text))) (class_inside text at Semicolon e (λ f. cc)) p (λ f. cc))

pub comment_some : (text : List ℕ) (at : ℕ) → class_at (drop at text) ≡ Semicolon → 0 < run no_line_end (drop at text)
comment_some text at e =
    let h = at_class (drop at text) Semicolon e (λ f. cc) in
    let r = ap (run no_line_end) h.2 ∙ run_in no_line_end h.0 h.1 (class_no_end Semicolon h.0 h.3 (λ f. cc)) in
    omega arith

pub comment_line : (text : List ℕ) (at : ℕ) → line_at text (at + run no_line_end (drop at text)) ≡ line_at text at
comment_line text at =
    let z = no_end_none (take (run no_line_end (drop at text)) (drop at text)) (run_every no_line_end (drop at text)) in
    let m = line_moves text at (run no_line_end (drop at text)) in
    omega arith

pub run_inside : (p : ℕ → Bool) (text : List ℕ) (at : ℕ) → at ≤ length text → at + run p (drop at text) ≤ length text
run_inside p text at l =
    let d : length (drop at text) ≡ length text - at = length-drop at text in
    let f = run_fits p (drop at text) in
    omega arith

-- the line of a place is at most one more than the place
pub line_small : (text : List ℕ) (at : ℕ) → at ≤ length text → line_at text at ≤ at + 1
line_small text at l =
    let f = line_ends_fit (take at text) in
    let t = length-take-le at text l in
    omega arith

-- ---- lists of tokens with a bad one

has_bad_by : (t : Token) (ts us : List Token) → has_bad (t ∷ ts) ≡ false → (has_bad ts ≡ false → has_bad (ts ++ us) ≡ has_bad us) → (b : Bool) → is_bad_kind t.kind ≡ b → has_bad (t ∷ (ts ++ us)) ≡ has_bad us
has_bad_by t ts us h k true e = let f : true ≡ false = sym (ap (λ (b : Bool). cond b true (has_bad ts)) e) ∙ h in absurd (cc)
has_bad_by t ts us h k false e = ap (λ (b : Bool). cond b true (has_bad (ts ++ us))) e ∙ k (sym (ap (λ (b : Bool). cond b true (has_bad ts)) e) ∙ h)

pub has_bad-append : (ts us : List Token) → has_bad ts ≡ false → has_bad (ts ++ us) ≡ has_bad us
has_bad-append [] us h = refl
has_bad-append (t ∷ ts) us h = has_bad_by t ts us h (has_bad-append ts us) (is_bad_kind t.kind) refl
