-- Forms of arguments, and how they are held.
use Rattle.std.proofs.Common.{replicate, ◌≡◌, ℕ, ◌+◌, ◌*◌, ◌-◌, ◌^◌, ◌<◌, ◌≤◌, List, [], ◌∷◌, ◌++◌, length, get_or, Option, Some, None, option_map, Err, Bool, true, false, nat_lt, refl, sym, ap, ◌∙◌, arith}
use Rattle.std.proofs.lemmas.List.{append_assoc, take_rest}
use Rattle.run_text.specs.declared.arguments.Form.{Form}
use Rattle.run_text.specs.Lines.{hex_value, hex_bytes, with_byte}
use Rattle.run_text.specs.LaunchText.{ArgForm, Zeros, Bytes, NullForm, NumberForm, or_else, sized, arg_for, formed_arg, surplus}
use Rattle.run_text.specs.Forms.{HasWidth, spelled, held_surplus, pair_byte, and_byte, held, IsNextByte}
use Rattle.run_text.proofs.LineEnds.{from}
use Rattle.run_text.proofs.CappedNumbers.{below, above}
use Rattle.run_text.specs.Capped.{capped}
use Rattle.ir_core.specs.Numbers.{fits}
use Rattle.ir_core.specs.declared.types.Ty.{Ty}
use Rattle.ir_core.specs.declared.types.Ty.TheVariants.{Int as IntTy, Ptr}
use Rattle.mem_model.specs.Memory.{block_limit}
use Rattle.run_text.specs.declared.launch.LaunchFaultKind.TheVariants.{ArgumentSize, ArgumentForm}
use Rattle.std.proofs.lemmas.Bool.{ltb-true, ltb-false, lt-leb, le-ltb}
use Rattle.std.proofs.Math.Nat.{pow-le-pow_right}

-- bytes before those that are read of the rest
abbrev pub put_some : List ℕ → Option (List ℕ) → Option (List ℕ)
put_some xs None = None
put_some xs (Some ys) = Some (xs ++ ys)

pub put_next : (xs : List ℕ) (byte : ℕ) (more : Option (List ℕ)) → put_some xs (and_byte byte more) ≡ put_some (xs ++ byte ∷ []) more
put_next xs byte None = refl
put_next xs byte (Some ys) = ap Some (sym (append_assoc xs (byte ∷ []) ys))

with_pair : (high low : Option ℕ) (byte : ℕ) (more : Option (List ℕ)) → Some byte ≡ pair_byte high low → with_byte high low more ≡ and_byte byte more
with_pair (Some h) (Some l) byte (Some bs) e = let f : byte ≡ 16 * h + l = cc in ap (λ b. Some (b ∷ bs)) (sym f)
with_pair (Some h) (Some l) byte None e = refl
with_pair (Some h) None byte more e = let f : ⊥ = cc in absurd f
with_pair None low byte more e = let f : ⊥ = cc in absurd f

without_pair : (high low : Option ℕ) (more : Option (List ℕ)) → None ≡ pair_byte high low → with_byte high low more ≡ None
without_pair (Some h) (Some l) more e = let f : ⊥ = cc in absurd f
without_pair (Some h) None more e = refl
without_pair None low more e = refl

pub byte_read : (digits : List ℕ) (byte : ℕ) → 2 ≤ length digits → Some byte ≡ pair_byte (hex_value (get_or digits 0 0)) (hex_value (get_or digits 1 0)) → IsNextByte digits byte (from digits 2)
byte_read [] byte h e = absurd (omega arith)
byte_read (c ∷ []) byte h e = absurd (omega arith)
byte_read (c ∷ d ∷ ds) byte h e =
    let f = take_rest (c ∷ d ∷ ds) 2 in
    let l = ap length f in
    record {
      is = with_pair (hex_value c) (hex_value d) byte (hex_bytes ds) e ∙ ap (λ x. and_byte byte (hex_bytes x)) (sym f);
      fewer = omega arith;
    }

pub byte_refused : (digits : List ℕ) → 2 ≤ length digits → None ≡ pair_byte (hex_value (get_or digits 0 0)) (hex_value (get_or digits 1 0)) → hex_bytes digits ≡ None
byte_refused [] h e = absurd (omega arith)
byte_refused (c ∷ []) h e = absurd (omega arith)
byte_refused (c ∷ d ∷ ds) h e = without_pair (hex_value c) (hex_value d) (hex_bytes ds) e

pub byte_missing : (digits : List ℕ) → 0 < length digits → length digits < 2 → hex_bytes digits ≡ None
byte_missing [] h e = absurd (omega arith)
byte_missing (c ∷ []) h e = refl
byte_missing (c ∷ d ∷ ds) h e = absurd (omega arith)

-- the second of three, where the first is none
pub or_second : (a b c : Option ArgForm) (form : Form) → None ≡ option_map held a → Some form ≡ option_map held b → Some form ≡ option_map held (or_else a (or_else b c))
or_second (Some x) b c form e f = let g : ⊥ = cc in absurd g
or_second None None c form e f = let g : ⊥ = cc in absurd g
or_second None (Some y) c form e f = f

-- ---- what is held serves as well

limit_small : block_limit < 2 ^ 31
unfolding block_limit
limit_small = omega arith

too_large : (left size : ℕ) (bytes : List ℕ) → block_limit < size → sized left size bytes ≡ Err ArgumentSize
too_large left size bytes h = rw (lt-leb size block_limit h)

zeros_by : (left n : ℕ) (b : Bool) → nat_lt n (2 ^ 64) ≡ b → sized left n (replicate n 0) ≡ sized left (capped n) (replicate (capped n) 0)
zeros_by left n true e = ap (λ k. sized left k (replicate k 0)) (sym (below n (ltb-true n (2 ^ 64) e)))
zeros_by left n false e =
    let h = ltb-false n (2 ^ 64) e in
    let s = limit_small in
    too_large left n (replicate n 0) (omega arith) ∙ sym (too_large left (2 ^ 64) (replicate (2 ^ 64) 0) (omega arith)) ∙ ap (λ k. sized left k (replicate k 0)) (sym (above n h))

too_wide : (width n : ℕ) (is_negative : Bool) → width ≤ 64 → 2 ^ 64 ≤ n → fits width is_negative n ≡ false
too_wide width n true h l =
    let two : 0 < 2 = omega arith in
    let less : width - 1 ≤ 63 = omega arith in
    let p : 2 ^ (width - 1) ≤ 2 ^ 63 = pow-le-pow_right two less in
    lt-leb n (2 ^ (width - 1)) (omega arith)
too_wide width n false h l =
    let two : 0 < 2 = omega arith in
    let p : 2 ^ width ≤ 2 ^ 64 = pow-le-pow_right two h in
    le-ltb n (2 ^ width) (omega arith)

no_int : (left width n : ℕ) (is_negative : Bool) → fits width is_negative n ≡ false → arg_for left (IntTy width) (NumberForm is_negative n) ≡ Err ArgumentForm
no_int left width n is_negative e = rw e

number_by : (left width n : ℕ) (is_negative : Bool) → width ≤ 64 → (b : Bool) → nat_lt n (2 ^ 64) ≡ b → arg_for left (IntTy width) (NumberForm is_negative n) ≡ arg_for left (IntTy width) (NumberForm is_negative (capped n))
number_by left width n is_negative h true e = ap (λ k. arg_for left (IntTy width) (NumberForm is_negative k)) (sym (below n (ltb-true n (2 ^ 64) e)))
number_by left width n is_negative h false e =
    let l = ltb-false n (2 ^ 64) e in
    no_int left width n is_negative (too_wide width n is_negative h l)
    ∙ sym (no_int left width (2 ^ 64) is_negative (too_wide width (2 ^ 64) is_negative h (omega arith)))
    ∙ ap (λ k. arg_for left (IntTy width) (NumberForm is_negative k)) (sym (above n l))

held_serves : (left : ℕ) (ty : Ty) → HasWidth ty → (form : ArgForm) → arg_for left ty form ≡ arg_for left ty (spelled (held form))
held_serves left ty w (Bytes bytes) = refl
held_serves left ty w NullForm = refl
held_serves left Ptr w (Zeros n) = zeros_by left n (nat_lt n (2 ^ 64)) refl
held_serves left (IntTy width) w (Zeros n) = refl
held_serves left _ w (Zeros n) = refl
held_serves left Ptr w (NumberForm is_negative n) = refl
held_serves left (IntTy width) w (NumberForm is_negative n) = number_by left width n is_negative w.1 (nat_lt n (2 ^ 64)) refl
held_serves left _ w (NumberForm is_negative n) = refl

pub formed : (left : ℕ) (ty : Ty) → HasWidth ty → (a : Option ArgForm) (form : Form) → Some form ≡ option_map held a → formed_arg left ty a ≡ arg_for left ty (spelled form)
formed left ty w None form e = let f : ⊥ = cc in absurd f
formed left ty w (Some x) form e = let f : form ≡ held x = cc in held_serves left ty w x ∙ ap (λ h. arg_for left ty (spelled h)) (sym f)

pub surplus_held : (a : Option ArgForm) → held_surplus (option_map held a) ≡ surplus a
surplus_held None = refl
surplus_held (Some x) = refl
