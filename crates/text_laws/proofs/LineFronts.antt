-- What stands at the front of a line outside braces: passive lines, and names that begin none.
use Rattle.std.proofs.Common.{◌≡◌, ℕ, zero, suc, ◌≤◌, ◌<◌, List, [], ◌∷◌, ◌++◌, length, take, drop, Some, Bool, true, false, cond, not, ◌&&◌, ◌==◌, refl, sym, ap, ◌∙◌, inl, inr, ◌⊎◌, arith, codes, append_assoc}
use Rattle.std.proofs.lemmas.List.{take-append-drop, length-take-le}
use Rattle.std.proofs.lemmas.Bool.{eqb-true}
use Rattle.std.proofs.lemmas.Slice.Eq.{bytes_eq-Decides}
use Rattle.ir_core.specs.Bytes.{Bang, class_of, is_one_of, no_line_end, every}
use Rattle.ir_core.specs.Tokens.{Passive, Spot, is_outside, behind, IsPassiveFront, IsPassive}
use Rattle.ir_core.specs.Scan.{run, piece, plain_at, begins_passive, line_size, passive_size, piece_at, by_passive}
use Rattle.ir_core.specs.Forms.{begins_with_llvm}
use Rattle.ir_core.specs.Text.{is_word, name_text, quoted}
use Rattle.ir_core.proofs.Runs.{by_test, if_true, if_false, run_ended, run_fits, every_first}
use Rattle.ir_core.proofs.Below.{some_or_none}
use Rattle.ir_core.proofs.PassiveLines.{passive_some, passive_bound, passive_is, trimmed_fits}
use Rattle.text_laws.specs.Spelling.{AreBytes}
use Rattle.text_laws.proofs.Rows.{Bare, bare, Outer, one_more}
use Rattle.text_laws.proofs.Endings.{Ends, end_bytes}
use Rattle.text_laws.proofs.Lexed.{outer_line}

-- ---- passive lines

passive_whole : (line rest : List ℕ) → IsPassive line → passive_size (line ++ 10 ∷ rest) ≡ length line
passive_whole line rest h =
    let text = line ++ 10 ∷ rest in
    let b = passive_bound text line (10 ∷ rest) h refl in
    let r : run no_line_end text ≡ length line = (run_ended no_line_end 10 line rest h.4 refl).0 in
    let t = trimmed_fits (take (run no_line_end text) text) in
    let l = length-take-le (run no_line_end text) text in
    let v = run_fits no_line_end text in
    let u = below (begins_passive (take (line_size text) text)) (line_size text) in
    omega arith
  where
    below : (b : Bool) (n : ℕ) → cond b n 0 ≤ n
    below true n = omega arith
    below false n = omega arith

-- a passive line and its line end
pub passive_outer : (line rest : List ℕ) (ls : List Bare) → AreBytes line → IsPassive line → Outer rest ls → Outer (line ++ 10 ∷ rest) (bare Passive line ∷ ls)
passive_outer line rest ls b h r = record { at = λ spot k f. one_more spot (Some Passive) line (10 ∷ rest) ls b (passive_some line h) (here spot k f) (λ g. cc) ((outer_line rest ls r).at (behind spot (Some Passive) line) k refl) }
  where
    here : (spot : Spot) → spot.depth ≡ 0 → spot.first ≡ true → piece_at spot (line ++ 10 ∷ rest) ≡ piece (Some Passive) (length line)
    here spot k f =
        let text = line ++ 10 ∷ rest in
        let o : is_outside spot ≡ true = ap (λ b. b && (spot.depth == 0)) f ∙ ap (λ n. n == 0) k in
        if_true (is_outside spot) (by_passive (passive_size text) (plain_at text)) (plain_at text) o
        ∙ ap (λ n. by_passive n (plain_at text)) (passive_whole line rest h)
        ∙ some (length line) (passive_some line h)
      where
        some : (n : ℕ) → 0 < n → by_passive n (plain_at (line ++ 10 ∷ rest)) ≡ piece (Some Passive) n
        some n l = by_test (n == 0) (λ e. let z = eqb-true n 0 e in absurd (omega arith)) (λ e. if_false (n == 0) (plain_at (line ++ 10 ∷ rest)) (piece (Some Passive) n) e)

-- ---- no passive line

no_passive : (text : List ℕ) → ((front rest : List ℕ) → IsPassiveFront front → text ≡ front ++ rest → ⊥) → passive_size text ≡ 0
no_passive text n = by (some_or_none (passive_size text))
  where
    by : (passive_size text ≡ 0) ⊎ (0 < passive_size text) → passive_size text ≡ 0
    by (inl z) = z
    by (inr l) =
        let p = (passive_is text l).1 in
        let d = drop (passive_size text) text in
        absurd (n p.0 (p.1 ++ d) p.2 (sym (take-append-drop (passive_size text) text) ∙ ap (λ (t : List ℕ). t ++ d) p.3 ∙ append_assoc p.0 p.1 d))

abbrev first : List ℕ → ℕ
first [] = 0
first (c ∷ cs) = c

-- the beginnings of passive lines, by their first byte
by_front : (c : ℕ) (cs front rest : List ℕ) → (class_of c ≡ Bang → ⊥) → (c == 36) ≡ false → (c == 97) ≡ false → (c == 115) ≡ false → (c == 116) ≡ false → IsPassiveFront front → c ∷ cs ≡ front ++ rest → front ≡ codes "@llvm."
by_front c cs front rest b n1 n2 n3 n4 (inr (d, ds, e, k, h)) q =
    let f : c ≡ d = ap first (q ∙ ap (λ (t : List ℕ). t ++ rest) e) in
    absurd (b (ap class_of f ∙ k))
by_front c cs front rest b n1 n2 n3 n4 (inl (zero, l, e)) q = let f : c ≡ 36 = ap first (q ∙ ap (λ (t : List ℕ). t ++ rest) (sym e)) in absurd (let g : true ≡ false = sym (ap (λ n. n == 36) f) ∙ n1 in cc)
by_front c cs front rest b n1 n2 n3 n4 (inl (suc zero, l, e)) q = let f : c ≡ 97 = ap first (q ∙ ap (λ (t : List ℕ). t ++ rest) (sym e)) in absurd (let g : true ≡ false = sym (ap (λ n. n == 97) f) ∙ n2 in cc)
by_front c cs front rest b n1 n2 n3 n4 (inl (suc (suc zero), l, e)) q = let f : c ≡ 115 = ap first (q ∙ ap (λ (t : List ℕ). t ++ rest) (sym e)) in absurd (let g : true ≡ false = sym (ap (λ n. n == 115) f) ∙ n3 in cc)
by_front c cs front rest b n1 n2 n3 n4 (inl (suc (suc (suc zero)), l, e)) q = let f : c ≡ 116 = ap first (q ∙ ap (λ (t : List ℕ). t ++ rest) (sym e)) in absurd (let g : true ≡ false = sym (ap (λ n. n == 116) f) ∙ n4 in cc)
by_front c cs front rest b n1 n2 n3 n4 (inl (suc (suc (suc (suc zero))), l, e)) q = sym e
by_front c cs front rest b n1 n2 n3 n4 (inl (suc (suc (suc (suc (suc k)))), l, e)) q = absurd (omega arith)

pub local_no_passive : (cs : List ℕ) → passive_size (37 ∷ cs) ≡ 0
local_no_passive cs = no_passive (37 ∷ cs) (λ front rest h q. let f = by_front 37 cs front rest (λ g. cc) refl refl refl refl h q in let g : ◌≡◌ {A = ℕ} 37 64 = ap first (q ∙ ap (λ (t : List ℕ). t ++ rest) f) in omega arith)

-- a front without bytes that end words is in what comes before such a byte
in_front : (w x rest r : List ℕ) → every (λ c. not (is_one_of end_bytes c)) w ≡ true → Ends rest → x ++ rest ≡ w ++ r → take (length w) x ≡ w
in_front [] x rest r n e q = refl
in_front (a ∷ w) [] [] r n e q = absurd (let f : false ≡ true = e in cc)
in_front (a ∷ w) [] (c ∷ rest) r n e q =
    let f : c ≡ a = ap first q in
    let g : not true ≡ true = ap not (sym e ∙ ap (is_one_of end_bytes) f) ∙ (every_first (λ c. not (is_one_of end_bytes c)) a w n).0 in
    absurd (let k : false ≡ true = g in cc)
in_front (a ∷ w) (b ∷ x) rest r n e q =
    let p : b ∷ (x ++ rest) ≡ a ∷ (w ++ r) = q in
    let f : x ++ rest ≡ w ++ r = cc in
    let g : b ≡ a = cc in
    let k = in_front w x rest r (every_first (λ c. not (is_one_of end_bytes c)) a w n).1 e f in
    λ i. g i ∷ k i

pub global_no_passive : (x rest : List ℕ) → begins_with_llvm x ≡ false → Ends rest → passive_size (64 ∷ (name_text x ++ rest)) ≡ 0
global_no_passive x rest n e = no_passive (64 ∷ (name_text x ++ rest)) (λ front more h q. by_test (is_word x) (word front more h q) (in_quotes front more h q))
  where
    llvm : (t front more : List ℕ) → IsPassiveFront front → 64 ∷ (t ++ rest) ≡ front ++ more → t ++ rest ≡ codes "llvm." ++ more
    llvm t front more h q =
        let f = by_front 64 (t ++ rest) front more (λ g. cc) refl refl refl refl h q in
        let g : 64 ∷ (t ++ rest) ≡ 64 ∷ (codes "llvm." ++ more) = q ∙ ap (λ (t : List ℕ). t ++ more) f in
        cc

    word : (front more : List ℕ) → IsPassiveFront front → 64 ∷ (name_text x ++ rest) ≡ front ++ more → is_word x ≡ true → ⊥
    word front more h q w =
        let f = llvm x front more h (ap (λ t. 64 ∷ (t ++ rest)) (sym (if_true _ _ _ w)) ∙ q) in
        let k = in_front (codes "llvm.") x rest more refl e f in
        let g : true ≡ false = sym ((bytes_eq-Decides (take 5 x) (codes "llvm.")).1 k) ∙ n in
        cc

    in_quotes : (front more : List ℕ) → IsPassiveFront front → 64 ∷ (name_text x ++ rest) ≡ front ++ more → is_word x ≡ false → ⊥
    in_quotes front more h q w =
        let f = llvm (quoted x) front more h (ap (λ t. 64 ∷ (t ++ rest)) (sym (if_false _ _ _ w)) ∙ q) in
        let g : ◌≡◌ {A = ℕ} 34 108 = ap first f in
        omega arith
