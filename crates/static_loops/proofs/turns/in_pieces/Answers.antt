use Rattle.std.proofs.Common.{◌^◌, ◌≤◌, ◌≡◌, ◌∙◌, ◌+ℤ◌, ◌-ℤ◌, ◌*ℤ◌, pos, ap, sym, subst, arith, rules, ℕ, Bool, false, unsigned_abs, of_z, to_z, Some}
use Rattle.std.specs.Int.{w128}
use Rattle.std.specs.Int.RustNames.{FitsSigned}
use Rattle.std.proofs.lemmas.Int.{to_z-of_z}
use Rattle.std.proofs.lemmas.Bool.Decides.{nat_tests}
use Rattle.std.specs.Prelude.{not, ◌&&◌, ◌==◌, ◌+◌}
use Rattle.mem_model.specs.Eval.{wrapped}
use Rattle.mem_model.specs.Schedules as spec
use Rattle.static_loops.specs.Shares.{loop_seen, share_seen}
use Rattle.static_loops.proofs.Ways.{kept, abs_below, less_one, sum_fits, sum_is}
use Rattle.static_loops.proofs.turns.in_pieces.Goals as goal
use Rattle.static_loops.proofs.turns.in_pieces.Goals.{then-size-ne0, else-size-ne0}

pub overflow_add-upper : goal.overflow_add-upper
overflow_add-upper c =
    let low = abs_below c.args.range.lower c.requires.range.0 in
    let e = c.from.ensures ∙ kept c.args.range.lower c.requires.range.0 in
    let f : FitsSigned w128 c.from.result = search rules in
    let s = c.after_turns-lower.ensures.small in
    let same = to_z-of_z w128 c.from.result f in
    let from : unsigned_abs (to_z w128 (of_z w128 c.from.result)) ≤ 2 ^ 31 = subst (λ z. unsigned_abs z ≤ 2 ^ 31) (sym (same ∙ e)) low in
    let w = c.way.ensures.small in
    sum_fits c.after_turns-lower.result c.way.result (search rules) (search rules) (omega arith) (omega arith)

last_of_some : (r : Bool) (begin size n a b : ℕ) → (size ≡ 0 → ⊥) → r ≡ (begin + a == b) → a ≡ size → b ≡ n → r ≡ (not (size == 0) && (begin + size == n))
last_of_some r begin size n a b some e p q = e ∙ (λ i. begin + p i == q i) ∙ ap (λ t. not t && (begin + size == n)) (sym (not_zero size some))
  where
    not_zero : (size : ℕ) → (size ≡ 0 → ⊥) → (size == 0) ≡ false
    not_zero size some = grind (arith, nat_tests)

last_of_none : (r : Bool) (begin size n : ℕ) → size ≡ 0 → r ≡ not (size == 0) → r ≡ (not (size == 0) && (begin + size == n))
last_of_none r begin size n none e = e ∙ ap (λ k. not (k == 0)) none ∙ sym (ap (λ k. not (k == 0) && (begin + size == n)) none)

pub returns : goal.returns
returns c =
    let l = loop_seen c.args.range in
    let s = share_seen c.args.share in
    let n = c.args.trips in
    let begin = c.piece_begin-begin.result in
    let size = c.piece-size.result in
    let f2 = c.from-2.ensures in
    let small = c.piece-size.ensures.small in
    let one_less : to_z w128 (of_z w128 (to_z w128 (of_z w128 c.from-2.result) -ℤ pos 1)) ≡ pos size -ℤ pos 1 = less_one c.from-2.result size f2 small in
    let inc = kept l.increment c.requires.range.2 in
    let f : FitsSigned w128 c.from.result = search rules in
    let fl : FitsSigned w128 c.after_turns-lower.result = search rules in
    let fw : FitsSigned w128 c.way.result = search rules in
    let fs : FitsSigned w128 c.way-2.result = search rules in
    let ft : FitsSigned w128 c.from-3.result = search rules in
    let low = abs_below l.lower c.requires.range.0 in
    let same = to_z-of_z w128 c.from.result f in
    let is_from = same ∙ c.from.ensures ∙ kept l.lower c.requires.range.0 in
    let sl = c.after_turns-lower.ensures.small in
    let sw = c.way.ensures.small in
    let from : unsigned_abs (to_z w128 (of_z w128 c.from.result)) ≤ 2 ^ 31 = subst (λ z. unsigned_abs z ≤ 2 ^ 31) (sym is_from) low in
    let lower : c.after_turns-lower.result ≡ spec.after_turns l l.lower (spec.piece_begin n s) =
    c.after_turns-lower.ensures.value ∙ (λ i. is_from i +ℤ (pos (c.piece_begin-begin.ensures.value i) *ℤ inc i)) in
    let way : c.way.result ≡ (pos (spec.piece n s) -ℤ pos 1) *ℤ l.increment =
    c.way.ensures.value ∙ (λ i. one_less i *ℤ inc i) ∙ ap (λ k. (pos k -ℤ pos 1) *ℤ l.increment) c.piece-size.ensures.value in
    let stride : c.way-2.result ≡ pos n *ℤ l.increment =
    c.way-2.ensures.value ∙ (λ i. (to_z-of_z w128 c.from-3.result ft ∙ c.from-3.ensures) i *ℤ inc i) in
    let first : c.wrapped.result ≡ wrapped 32 (spec.after_turns l l.lower (spec.piece_begin n s)) =
    c.wrapped.ensures.value ∙ ap (wrapped 32) (to_z-of_z w128 c.after_turns-lower.result fl ∙ lower) in
    let second : c.wrapped-2.result ≡ wrapped 32 (spec.after_turns l l.lower (spec.piece_begin n s) +ℤ ((pos (spec.piece n s) -ℤ pos 1) *ℤ l.increment)) =
    c.wrapped-2.ensures.value ∙ ap (wrapped 32) (sum_is c.after_turns-lower.result c.way.result fl fw (omega arith) (omega arith) ∙ (λ i. lower i +ℤ way i)) in
    let third : c.wrapped-3.result ≡ wrapped 32 (pos n *ℤ l.increment) =
    c.wrapped-3.ensures.value ∙ ap (wrapped 32) (to_z-of_z w128 c.way-2.result fs ∙ stride) in
    let last : c.if-size-ne0.result ≡ (not (spec.piece n s == 0) && (spec.piece_begin n s + spec.piece n s == n)) =
    elim c.if-size-ne0.branch [
      | then-size-ne0 w ↦ last_of_some _ begin size n _ _ w.if-size-ne0.true w.result-is w.from-then-size-ne0.ensures w.from-then-size-ne0-2.ensures
      | else-size-ne0 w ↦ last_of_none _ begin size n w.if-size-ne0.false w.result-is
    ] ∙ (λ i. not (c.piece-size.ensures.value i == 0) && (c.piece_begin-begin.ensures.value i + c.piece-size.ensures.value i == n)) in
    λ i. record { last = last i; bounds = Some (record { lower = first i; upper = second i }); stride = third i }
