-- What reads so many parts at most, as far as the tokens reach, reads any number of them.
use Rattle.std.proofs.Common.{◌≡◌, ℕ, ◌+◌, ◌≤◌, List, [], ◌∷◌, ◌++◌, length, Ok, Err, refl, sym, ap, ◌∙◌, subst, arith, length-append}
use Rattle.std.proofs.lemmas.List.{append_cancel_left, append_cancel_right}
use Rattle.ir_core.specs.Tokens.{Lexeme}
use Rattle.ir_core.specs.Spell.{Spell, SameNext}
use Rattle.read_forms.specs.Read.{Read}
use Rattle.read_forms.proofs.Readers.{Reads, Taken, Halted}

-- what ends in as many tokens begins with the same
same_begin : (a b c d : List Lexeme) → a ++ b ≡ c ++ d → length b ≡ length d → a ≡ c
same_begin [] b [] d e l = refl
same_begin [] b (y ∷ c) d e l = let m = ap length e in let n = length-append c d in absurd (omega arith)
same_begin (x ∷ a) b [] d e l = let m = ap length e in let n = length-append a b in absurd (omega arith)
same_begin (x ∷ a) b (y ∷ c) d e l =
    let h : x ≡ y = cc in
    let t : a ++ b ≡ c ++ d = cc in
    let r = same_begin a b c d t l in
    cc

module _ {X : Type 0} (f : ℕ → Read X) (S : ℕ → Spell X) (T : Spell X) (F : List Lexeme → Type 0)
    (reads : (n : ℕ) → Reads (f n) (S n) F)
    (same : (n m : ℕ) (ts : List Lexeme) → length ts ≤ n → length ts ≤ m → f n ts ≡ f m ts)
    (into : (n : ℕ) (ts : List Lexeme) (x : X) → S n ts x → T ts x)
    (from : (n : ℕ) (ts : List Lexeme) (x : X) → T ts x → length ts ≤ n → S n ts x) where
  abbrev whole : Read X
  whole ts = f (length ts) ts

  fuel_takes : (ts : List Lexeme) (x : X) (rest : List Lexeme) → whole ts ≡ Ok (x, rest) → Taken whole T ts x rest
  fuel_takes ts x rest e =
      let u = (reads (length ts)).takes ts x rest e in
      record { front = u.front; is = u.is; spelled = into (length ts) u.front x u.spelled; same = λ other s. goes_same u.front u.is other s }
    where
      goes_same : (front : List Lexeme) → ts ≡ front ++ rest → (other : List Lexeme) → SameNext rest other → whole (front ++ other) ≡ Ok (x, other)
      goes_same front is other s =
          let m = length ts + length (front ++ other) in
          let v = (reads m).takes ts x rest (same m (length ts) ts (omega arith) (omega arith) ∙ e) in
          let k : v.front ≡ front = append_cancel_right v.front front rest (sym v.is ∙ is) in
          same (length (front ++ other)) m (front ++ other) (omega arith) (omega arith) ∙ ap (λ (l : List Lexeme). f m (l ++ other)) (sym k) ∙ v.same other s

  fuel_halts : (ts : List Lexeme) (n : ℕ) → whole ts ≡ Err n → Halted whole T ts n
  fuel_halts ts n e =
      let u = (reads (length ts)).halts ts n e in
      record { front = u.front; rest = u.rest; is = u.is; left = u.left; more = u.more; value = u.value; goes_on = into (length ts) (u.front ++ u.more) u.value u.goes_on; same = λ other s. stops_same u.front u.rest u.is u.left other s }
    where
      stops_same : (front rest : List Lexeme) → ts ≡ front ++ rest → length rest ≡ n → (other : List Lexeme) → SameNext rest other → whole (front ++ other) ≡ Err (length other)
      stops_same front rest is left other s =
          let m = length ts + length (front ++ other) in
          let v = (reads m).halts ts n (same m (length ts) ts (omega arith) (omega arith) ∙ e) in
          let both : v.front ++ v.rest ≡ front ++ rest = sym v.is ∙ is in
          let k : v.front ≡ front = same_begin v.front v.rest front rest both (v.left ∙ sym left) in
          let r : v.rest ≡ rest = append_cancel_left front v.rest rest (ap (λ (l : List Lexeme). l ++ v.rest) (sym k) ∙ both) in
          same (length (front ++ other)) m (front ++ other) (omega arith) (omega arith) ∙ ap (λ (l : List Lexeme). f m (l ++ other)) (sym k) ∙ v.same other (subst (λ l. SameNext l other) (sym r) s)

  pub fuel_reads : Reads whole T F
  fuel_reads = record {
    takes = fuel_takes;
    halts = fuel_halts;
    only = λ front rest x s k. (let l = length-append front rest in (reads (length (front ++ rest))).only front rest x (from (length (front ++ rest)) front x s (omega arith)) k);
    some = (reads 0).some;
    value = (reads 0).value;
    spelled = into 0 (reads 0).some (reads 0).value (reads 0).spelled;
  }
