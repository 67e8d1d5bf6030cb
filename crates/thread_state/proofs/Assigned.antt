-- A value put at the place of a name changes what is found at that name alone.
use Rattle.std.proofs.Common.{◌≡◌, ℕ, zero, suc, ◌+◌, ◌<◌, ◌≤◌, List, [], ◌∷◌, length, refl, sym, ap, ◌∙◌, arith, slice_set, slice_get, Option, Some, None, Bool, true, false, cond, if◌then◌else◌, inl, inr}
use Rattle.std.specs.Str.{bytes_eq}
use Rattle.std.proofs.lemmas.List.{length-set}
use Rattle.std.proofs.lemmas.Slice.Eq.{bytes_eq-Decides}
use Rattle.ir_core.specs.declared.module.Module.{Module}
use Rattle.ir_core.specs.Places.{Name, place_from, place_in, register_names, inst_at}
use Rattle.mem_model.specs.declared.memory.Word.{Word}
use Rattle.mem_model.specs.Thread.{assigned}
use Rattle.mem_model.specs.Next.{code_on, code_past}
use Rattle.thread_state.specs.declared.state.Frame.{Frame as FrameData}
use Rattle.thread_state.specs.Seen.{value_at, value_or_none, registers_seen, code_seen, place_seen, IsLongInst, Occurs}
use Rattle.thread_state.specs.Moves.{IsPlaceOf, with_register, code_at, put_value, frame_assigned, frame_kept, frame_past, frame_at, code_in, frame_in}
use Rattle.mem_model.specs.declared.phase.Phase.{Phase}
use Rattle.thread_state.proofs.Frames.{Replaces}

-- ---- a value in the place of another

get_set : (values : List (Option Word)) (n : ℕ) (v : Option Word) → n < length values → slice_get (slice_set values n v) n ≡ Some v
get_set [] n v low = absurd (omega arith)
get_set (u ∷ us) zero v low = refl
get_set (u ∷ us) (suc n) v low = get_set us n v (omega arith)

get_other : (values : List (Option Word)) (n k : ℕ) (v : Option Word) → (k ≡ n → ⊥) → slice_get (slice_set values n v) k ≡ slice_get values k
get_other [] n k v other = refl
get_other (u ∷ us) zero zero v other = absurd (other refl)
get_other (u ∷ us) zero (suc k) v other = refl
get_other (u ∷ us) (suc n) zero v other = refl
get_other (u ∷ us) (suc n) (suc k) v other = get_other us n k v (λ e. other (ap suc e))

-- ---- places

abbrev pub Range : ℕ → ℕ → ℕ → Type 0
Range at size n = (at ≤ n) × (n < at + size)

range_step : (at : ℕ) (ys : List Name) (x : Name) (n : ℕ) (b : Bool) → (place_from (at + 1) ys x ≡ Some n → Range (at + 1) (length ys) n) → (if b then Some at else place_from (at + 1) ys x) ≡ Some n → Range at (suc (length ys)) n
range_step at ys x n true rest e = let is : at ≡ n = cc in (omega arith, omega arith)
range_step at ys x n false rest e = let r = rest e in let low = r.0 in let high = r.1 in (omega arith, omega arith)

-- the place of a name is one from the first on, and below the end
pub place_range : (at : ℕ) (names : List Name) (x : Name) (n : ℕ) → place_from at names x ≡ Some n → Range at (length names) n
place_range at [] x n e = let f : ⊥ = cc in absurd f
place_range at (y ∷ ys) x n e = range_step at ys x n (bytes_eq y x) (place_range (at + 1) ys x n) e

same_step : (at : ℕ) (y : Name) (ys : List Name) (x z : Name) (n : ℕ) (b c : Bool) → bytes_eq y x ≡ b → bytes_eq y z ≡ c → (place_from (at + 1) ys x ≡ Some n → place_from (at + 1) ys z ≡ Some n → x ≡ z) → (if b then Some at else place_from (at + 1) ys x) ≡ Some n → (if c then Some at else place_from (at + 1) ys z) ≡ Some n → x ≡ z
same_step at y ys x z n true true ex ez rest p q = sym ((bytes_eq-Decides y x).0 ex) ∙ (bytes_eq-Decides y z).0 ez
same_step at y ys x z n true false ex ez rest p q = let is : at ≡ n = cc in let low = (place_range (at + 1) ys z n q).0 in absurd (omega arith)
same_step at y ys x z n false true ex ez rest p q = let is : at ≡ n = cc in let low = (place_range (at + 1) ys x n p).0 in absurd (omega arith)
same_step at y ys x z n false false ex ez rest p q = rest p q

-- names at one place are equal
same_place : (at : ℕ) (names : List Name) (x z : Name) (n : ℕ) → place_from at names x ≡ Some n → place_from at names z ≡ Some n → x ≡ z
same_place at [] x z n p q = let f : ⊥ = cc in absurd f
same_place at (y ∷ ys) x z n p q = same_step at y ys x z n (bytes_eq y x) (bytes_eq y z) refl refl (same_place (at + 1) ys x z n) p q

-- ---- registers

module _ (names : List Name) (values : List (Option Word)) (size : length values ≡ length names) (x : Name) (word : Word) (n : ℕ) (place : place_in names x ≡ Some n) where
  low : n < length values
  low = let r = (place_range 0 names x n place).1 in omega arith

  at_name : (y : Name) (b : Bool) (o : Option ℕ) → bytes_eq y x ≡ b → place_in names y ≡ o → value_at (slice_set values n (Some word)) o ≡ cond b (Some word) (value_at values o)
  at_name y true o e p =
      let here : o ≡ Some n = sym p ∙ ap (place_in names) ((bytes_eq-Decides y x).0 e) ∙ place in
      ap (value_at (slice_set values n (Some word))) here ∙ ap value_or_none (get_set values n (Some word) low)
  at_name y false None e p = refl
  at_name y false (Some k) e p =
      ap value_or_none (get_other values n k (Some word) (λ is. let same : y ≡ x = same_place 0 names y x n (p ∙ ap Some is) place in let yes : bytes_eq y x ≡ true = (bytes_eq-Decides y x).1 same in let f : ⊥ = cc in f))

  pub registers_set : registers_seen names (slice_set values n (Some word)) ≡ assigned (registers_seen names values) (Some x) word
  registers_set = λ i. λ y. at_name y (bytes_eq y x) (place_in names y) refl refl i

-- the registers with a result
pub registers_put : (names : List Name) (values : List (Option Word)) → length values ≡ length names → (x : Option Name) (register : Option ℕ) (word : Word) → IsPlaceOf names x register → registers_seen names (put_value values register word) ≡ assigned (registers_seen names values) x word
registers_put names values size None None word is = refl
registers_put names values size None (Some n) word is = absurd is
registers_put names values size (Some x) None word is = let e = is.1 in let f : ⊥ = cc in absurd f
registers_put names values size (Some x) (Some k) word is = registers_set names values size x word k is.2

length_put : (values : List (Option Word)) (register : Option ℕ) (word : Word) → length (put_value values register word) ≡ length values
length_put values None word = refl
length_put values (Some n) word = length-set values n (Some word)

-- ---- the innermost call moved on

pub assigns : (m : Module) (f : FrameData) (x : Option Name) (register : Option ℕ) (word : Word) → IsPlaceOf (register_names m f.function) x register → Replaces m (with_register x word) f (frame_assigned f register word)
assigns m f x register word is = record {
  size = length_put f.registers register word;
  room = refl;
  function = refl;
  base = refl;
  fits = λ h. h;
  code = λ size outer. λ i. record (code_seen m outer f) { registers = registers_put (register_names m f.function) f.registers size x register word is i };
}

pub goes_behind : (m : Module) (f : FrameData) (x : Option Name) (register : Option ℕ) (word : Word) → IsPlaceOf (register_names m f.function) x register → Replaces m (λ c. code_on c x word) f (frame_past (frame_assigned f register word))
goes_behind m f x register word is = record {
  size = length_put f.registers register word;
  room = refl;
  function = refl;
  base = refl;
  fits = λ h. inl refl;
  code = λ size outer. λ i. record (code_seen m outer (frame_past f)) { registers = registers_put (register_names m f.function) f.registers size x register word is i };
}

pub passes : (m : Module) (f : FrameData) → Replaces m code_past f (frame_past f)
passes m f = record { size = refl; room = refl; function = refl; base = refl; fits = λ h. inl refl; code = λ size outer. refl }

pub stays : (m : Module) (f : FrameData) (phase : Phase) → IsLongInst m (inst_at m (place_seen f)) → Occurs m phase → Replaces m (code_in phase) f (frame_in f phase)
stays m f phase long occurs = record { size = refl; room = refl; function = refl; base = refl; fits = λ h. inr (long, occurs); code = λ size outer. refl }

pub keeps : (m : Module) (f : FrameData) (at : ℕ) (word : Word) → Replaces m (λ c. c) f (frame_kept f at word)
keeps m f at word = record { size = refl; room = length-set f.room at word; function = refl; base = refl; fits = λ h. h; code = λ size outer. refl }

pub jumps : (m : Module) (f : FrameData) (block index : ℕ) → Replaces m (code_at block index) f (frame_at f block index)
jumps m f block index = record { size = refl; room = refl; function = refl; base = refl; fits = λ h. inl refl; code = λ size outer. refl }
