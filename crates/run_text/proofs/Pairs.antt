-- Pairs that are read line by line.
use Rattle.std.proofs.Common.{◌≡◌, ℕ, ◌+◌, ◌^◌, ◌<◌, ◌≤◌, List, [], ◌∷◌, ◌++◌, Option, Some, None, option_map, Result, Ok, Err, Bool, true, false, nat_lt, nat_le, ◌&&◌, if◌then◌else◌, refl, sym, ap, ◌∙◌, arith}
use Rattle.std.proofs.lemmas.List.{append_assoc}
use Rattle.std.proofs.lemmas.Bool.{ltb-true, ltb-false, le-ltb, le-leb, lt-leb}
use Rattle.team_model.specs.declared.Pair.{Pair}
use Rattle.mem_model.specs.Launching.{steps_limit}
use Rattle.run_text.specs.declared.schedule.ScheduleFaultKind.{ScheduleFaultKind}
use Rattle.run_text.specs.declared.schedule.ScheduleFaultKind.TheVariants.{LineForm, ThreadRange}
use Rattle.run_text.specs.declared.schedule.ScheduleFault.{ScheduleFault}
use Rattle.run_text.specs.Capped.{capped}
use Rattle.run_text.proofs.CappedNumbers.{below, above}
use Rattle.run_text.specs.Lines.{lines, numbered}
use Rattle.run_text.specs.ScheduleText.{parted, pair_of, pair_in, pairs_in, and_more, fault_at}

-- values before those that are read of the rest
abbrev pub put_before : {A F : Type 0} → List A → Result (List A) F → Result (List A) F
put_before xs (Err fault) = Err fault
put_before xs (Ok ys) = Ok (xs ++ ys)

pub put_none : {A F : Type 0} (r : Result (List A) F) → r ≡ put_before [] r
put_none (Err fault) = refl
put_none (Ok ys) = refl

put_more : (line : ℕ) (xs : List Pair) (x : Pair) (r : Result (List Pair) ScheduleFault) → put_before xs (and_more line (Ok x) r) ≡ put_before (xs ++ x ∷ []) r
put_more line xs x (Err fault) = refl
put_more line xs x (Ok ys) = ap Ok (sym (append_assoc xs (x ∷ []) ys))

-- the first of the lines
module _ (threads number : ℕ) (text line after : List ℕ) (split : lines text ≡ line ∷ lines after) where
  abbrev rest : Result (List Pair) ScheduleFault
  rest = pairs_in threads (numbered (number + 1) (lines after))

  first : (r : Result Pair ScheduleFaultKind) → pair_in threads (parted line) ≡ r → pairs_in threads (numbered number (lines text)) ≡ and_more number r rest
  first r e = ap (λ ls. pairs_in threads (numbered number ls)) split ∙ ap (λ x. and_more number x rest) e

  pub pair_read : (all : Result (List Pair) ScheduleFault) (xs : List Pair) (x : Pair) → all ≡ put_before xs (pairs_in threads (numbered number (lines text))) → pair_in threads (parted line) ≡ Ok x → all ≡ put_before (xs ++ x ∷ []) rest
  pair_read all xs x so_far e = so_far ∙ ap (put_before xs) (first (Ok x) e) ∙ put_more number xs x rest

  pub pair_refused : (all : Result (List Pair) ScheduleFault) (xs : List Pair) (fault : ScheduleFaultKind) → all ≡ put_before xs (pairs_in threads (numbered number (lines text))) → pair_in threads (parted line) ≡ Err fault → all ≡ Err (fault_at number fault)
  pair_refused all xs fault so_far e = so_far ∙ ap (put_before xs) (first (Err fault) e)

-- ---- numbers of any length

steps_small : steps_limit < 2 ^ 31
unfolding steps_limit
steps_small = omega arith

module _ (threads : ℕ) (few : threads < 2 ^ 32) where
  many_steps : (thread count : ℕ) → steps_limit < count → pair_of threads (Some thread) (Some count) ≡ Err LineForm
  many_steps thread count h = rw (le-leb 1 count (omega arith), lt-leb count steps_limit h)

  abbrev no_thread : ℕ → Result Pair ScheduleFaultKind
  no_thread count = if nat_le 1 count && nat_le count steps_limit then Err ThreadRange else Err LineForm

  high_thread : (thread count : ℕ) → threads ≤ thread → pair_of threads (Some thread) (Some count) ≡ no_thread count
  high_thread thread count h = rw (le-ltb thread threads h)

  capped_thread : (thread count : ℕ) → pair_of threads (Some (capped thread)) (Some count) ≡ pair_of threads (Some thread) (Some count)
  capped_thread thread count = by (nat_lt thread (2 ^ 64)) refl
    where
      by : (b : Bool) → nat_lt thread (2 ^ 64) ≡ b → pair_of threads (Some (capped thread)) (Some count) ≡ pair_of threads (Some thread) (Some count)
      by true e = ap (λ k. pair_of threads (Some k) (Some count)) (below thread (ltb-true thread (2 ^ 64) e))
      by false e =
          let h = ltb-false thread (2 ^ 64) e in
          ap (λ k. pair_of threads (Some k) (Some count)) (above thread h) ∙ high_thread (2 ^ 64) count (omega arith) ∙ sym (high_thread thread count (omega arith))

  capped_pair : (thread count : ℕ) → pair_of threads (Some (capped thread)) (Some (capped count)) ≡ pair_of threads (Some thread) (Some count)
  capped_pair thread count = by (nat_lt count (2 ^ 64)) refl
    where
      by : (b : Bool) → nat_lt count (2 ^ 64) ≡ b → pair_of threads (Some (capped thread)) (Some (capped count)) ≡ pair_of threads (Some thread) (Some count)
      by true e = ap (λ k. pair_of threads (Some (capped thread)) (Some k)) (below count (ltb-true count (2 ^ 64) e)) ∙ capped_thread thread count
      by false e =
          let h = ltb-false count (2 ^ 64) e in
          let s = steps_small in
          ap (λ k. pair_of threads (Some (capped thread)) (Some k)) (above count h) ∙ many_steps (capped thread) (2 ^ 64) (omega arith) ∙ sym (many_steps thread count (omega arith))

  pub numbers_read : (t c : ℕ) (thread count : Option ℕ) → Some t ≡ option_map capped thread → Some c ≡ option_map capped count → pair_of threads (Some t) (Some c) ≡ pair_of threads thread count
  numbers_read t c None count e f = let h : ⊥ = cc in absurd h
  numbers_read t c (Some n) None e f = let h : ⊥ = cc in absurd h
  numbers_read t c (Some n) (Some m) e f =
      let d : t ≡ capped n = cc in
      let g : c ≡ capped m = cc in
      ap (λ k. pair_of threads (Some k) (Some c)) d ∙ ap (λ k. pair_of threads (Some (capped n)) (Some k)) g ∙ capped_pair n m
