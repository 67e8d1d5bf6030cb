-- A text's front up to its limit and one byte spells what the text spells; and a schedule's text has few pairs.
use Rattle.std.proofs.Common.{◌≡◌, ◌⊎◌, ℕ, suc, ◌+◌, ◌^◌, ◌<◌, ◌≤◌, List, [], ◌∷◌, length, take, nat_lt, Bool, true, false, cond, ◌==◌, if◌then◌else◌, Result, Ok, Err, refl, sym, ap, ◌∙◌, arith, inl, inr, length-take}
use Rattle.std.proofs.lemmas.List.{take_all}
use Rattle.std.proofs.lemmas.Bool.{lt-ltb, ltb-false, cases_lt}
use Rattle.ir_core.specs.declared.module.Module.{Module}
use Rattle.team_model.specs.declared.Pair.{Pair}
use Rattle.run_text.specs.declared.launch.LaunchFaultKind.TheVariants.{TextSize}
use Rattle.run_text.specs.declared.schedule.ScheduleFaultKind.{ScheduleFaultKind}
use Rattle.run_text.specs.declared.schedule.ScheduleFaultKind.TheVariants.{TextSize as TooLong}
use Rattle.run_text.specs.declared.schedule.ScheduleFault.{ScheduleFault}
use Rattle.run_text.specs.Lines.{Line, lines, with_first, numbered}
use Rattle.run_text.specs.LaunchText.{launch_limit, LaunchOf}
use Rattle.run_text.specs.ScheduleText.{schedule_limit, parted, pair_in, and_more, pairs_in, PairsOf}

-- ---- fronts

module _ {R : Type 0} (of : List ℕ → R) (limit : ℕ) (too_long : R) (long : (t : List ℕ) → limit < length t → of t ≡ too_long) where
  front_by : (t : List ℕ) → (limit < length t) ⊎ (length t ≤ limit) → of (take (limit + 1) t) ≡ of t
  front_by t (inl h) = long (take (limit + 1) t) (omega (arith, length-take (limit + 1) t)) ∙ sym (long t h)
  front_by t (inr h) = ap of (take_all (limit + 1) t (omega arith))

  front_same : (t : List ℕ) → of (take (limit + 1) t) ≡ of t
  front_same t = front_by t (cases_lt limit (length t))

launch_too_long : (m : Module) (t : List ℕ) → launch_limit < length t → LaunchOf m t ≡ Err (record { fault = TextSize; line = 1 })
launch_too_long m t h = rw (lt-ltb launch_limit (length t) h)

pub launch_front : (m : Module) (t : List ℕ) → LaunchOf m (take (launch_limit + 1) t) ≡ LaunchOf m t
launch_front m t = front_same (LaunchOf m) launch_limit (Err (record { fault = TextSize; line = 1 })) (launch_too_long m) t

schedule_too_long : (threads : ℕ) (t : List ℕ) → schedule_limit < length t → PairsOf t threads ≡ Err (record { fault = TooLong; line = 1; step = 0 })
schedule_too_long threads t h = rw (lt-ltb schedule_limit (length t) h)

pub pairs_front : (threads : ℕ) (t : List ℕ) → PairsOf (take (schedule_limit + 1) t) threads ≡ PairsOf t threads
pairs_front threads t = front_same (λ text. PairsOf text threads) schedule_limit (Err (record { fault = TooLong; line = 1; step = 0 })) (schedule_too_long threads) t

-- ---- as many pairs as lines, and no more lines than bytes

limit_small : schedule_limit < 2 ^ 31
unfolding schedule_limit
limit_small = omega arith

first_few : (c : ℕ) (ls : List (List ℕ)) → length (with_first c ls) ≤ suc (length ls)
first_few c [] = omega arith
first_few c (l ∷ ls) = omega arith

few_by : (b : Bool) (c : ℕ) (ls : List (List ℕ)) (n : ℕ) → length ls ≤ n → length (cond b ([] ∷ ls) (with_first c ls)) ≤ suc n
few_by true c ls n h = omega arith
few_by false c ls n h = let f = first_few c ls in omega arith

few_lines : (text : List ℕ) → length (lines text) ≤ length text
few_lines [] = omega arith
few_lines (c ∷ cs) = few_by (c == 10) c (lines cs) (length cs) (few_lines cs)

length_numbered : (n : ℕ) (ls : List (List ℕ)) → length (numbered n ls) ≡ length ls
length_numbered n [] = refl
length_numbered n (l ∷ ls) = ap suc (length_numbered (n + 1) ls)

pairs_by : (line n : ℕ) (r : Result Pair ScheduleFaultKind) (rest : Result (List Pair) ScheduleFault) (pairs : List Pair) →
    ((ps : List Pair) → rest ≡ Ok ps → length ps ≡ n) → and_more line r rest ≡ Ok pairs → length pairs ≡ suc n
pairs_by line n (Err fault) rest pairs more e = let f : ⊥ = cc in absurd f
pairs_by line n (Ok p) (Err fault) pairs more e = let f : ⊥ = cc in absurd f
pairs_by line n (Ok p) (Ok ps) pairs more e = let same : (p ∷ ps) ≡ pairs = cc in ap length (sym same) ∙ ap suc (more ps refl)

length_pairs : (threads : ℕ) (ls : List Line) (pairs : List Pair) → pairs_in threads ls ≡ Ok pairs → length pairs ≡ length ls
length_pairs threads [] pairs e = let same : [] ≡ pairs = cc in ap length (sym same)
length_pairs threads (l ∷ ls) pairs e = pairs_by l.number (length ls) (pair_in threads (parted l.bytes)) (pairs_in threads ls) pairs (length_pairs threads ls) e

few_in : (threads : ℕ) (text : List ℕ) (pairs : List Pair) → length text ≤ schedule_limit → pairs_in threads (numbered 1 (lines text)) ≡ Ok pairs → length pairs < 2 ^ 31
few_in threads text pairs h e =
    let small = limit_small in
    let same = length_pairs threads (numbered 1 (lines text)) pairs e ∙ length_numbered 1 (lines text) in
    let few = few_lines text in
    omega arith

few_if : (b : Bool) (threads : ℕ) (text : List ℕ) (pairs : List Pair) → nat_lt schedule_limit (length text) ≡ b →
    ◌≡◌ {A = Result (List Pair) ScheduleFault} (if b then Err (record { fault = TooLong; line = 1; step = 0 }) else pairs_in threads (numbered 1 (lines text))) (Ok pairs) → length pairs < 2 ^ 31
few_if true threads text pairs h e = let f : ⊥ = cc in absurd f
few_if false threads text pairs h e = few_in threads text pairs (ltb-false schedule_limit (length text) h) e

-- the pairs of a text can be counted
pub few_pairs : (threads : ℕ) (text : List ℕ) (pairs : List Pair) → PairsOf text threads ≡ Ok pairs → length pairs < 2 ^ 31
few_pairs threads text pairs e = few_if (nat_lt schedule_limit (length text)) threads text pairs refl e
