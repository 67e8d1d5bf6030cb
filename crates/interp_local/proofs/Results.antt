-- The result of an instruction is a register of its function.
use Rattle.std.proofs.Common.{◌≡◌, ℕ, zero, suc, ◌+◌, List, [], ◌∷◌, ◌++◌, map, reverse, Bool, true, false, Option, Some, None, refl, sym, ap, ◌∙◌, subst, slice_get, if◌then◌else◌, ◌⊎◌, inl, inr}
use Rattle.std.specs.List.{flat_map}
use Rattle.std.specs.Str.{bytes_eq}
use Rattle.std.proofs.lemmas.Slice.Eq.{bytes_eq-Decides}
use Rattle.mem_model.proofs.Runs.{some_injective}
use Rattle.ir_core.specs.declared.instructions.Inst.{Inst}
use Rattle.ir_core.specs.declared.module.Module.{Module}
use Rattle.ir_core.specs.declared.module.Function.{Function}
use Rattle.ir_core.specs.declared.module.Block.{Block}
use Rattle.ir_core.specs.Places.{Name, block_in, inst_in, place_from, place_in, param_name, inst_results, block_results, register_names_of, register_names}
use Rattle.thread_state.specs.declared.state.Frame.{Frame as FrameData}
use Rattle.thread_state.specs.declared.state.ThreadState.{ThreadState as ThreadData}
use Rattle.thread_state.specs.Moves.{first_names, names_of, IsPlaceOf}
use Rattle.interp_local.specs.Phis.{HavePlaces}
use Rattle.interp_local.specs.Steps.{first_inst, inst_of}

-- the name stands in the list
abbrev Has : List Name → Name → Type 0
Has [] x = ⊥
Has (y ∷ ys) x = (y ≡ x) ⊎ Has ys x

before : (xs ys : List Name) (x : Name) → Has ys x → Has (xs ++ ys) x
before [] ys x h = h
before (y ∷ xs) ys x h = inr (before xs ys x h)

behind : (xs ys : List Name) (x : Name) → Has xs x → Has (xs ++ ys) x
behind [] ys x h = absurd h
behind (y ∷ xs) ys x (inl e) = inl e
behind (y ∷ xs) ys x (inr h) = inr (behind xs ys x h)

in_inst : (i : Inst) (o : Option Name) (x : Name) → i.result ≡ o → o ≡ Some x → Has (inst_results i) x
in_inst i None x e s = let f : ⊥ = cc in absurd f
in_inst i (Some y) x e s = subst (λ (r : Option Name). Has (inst_results (record i { result = r })) x) (sym e) (inl (some_injective s))

in_insts : (is : List Inst) (n : ℕ) (i : Inst) (x : Name) → slice_get is n ≡ Some i → i.result ≡ Some x → Has (flat_map inst_results is) x
in_insts [] n i x at r = let f : ⊥ = cc in absurd f
in_insts (j ∷ is) zero i x at r = behind (inst_results j) (flat_map inst_results is) x (in_inst j (Some x) x (ap (λ (k : Inst). k.result) (some_injective at) ∙ r) refl)
in_insts (j ∷ is) (suc n) i x at r = before (inst_results j) (flat_map inst_results is) x (in_insts is n i x at r)

in_block : (o : Option Block) (n : ℕ) (i : Inst) (x : Name) → inst_in o n ≡ Some i → i.result ≡ Some x → (b : Block) → o ≡ Some b → Has (block_results b) x
in_block None n i x at r b e = let f : ⊥ = cc in absurd f
in_block (Some c) n i x at r b e = subst (λ (d : Block). Has (block_results d) x) (some_injective e) (in_insts c.insts n i x at r)

in_blocks : (bs : List Block) (k n : ℕ) (i : Inst) (x : Name) → inst_in (slice_get bs k) n ≡ Some i → i.result ≡ Some x → Has (flat_map block_results bs) x
in_blocks [] k n i x at r = let f : ⊥ = cc in absurd f
in_blocks (b ∷ bs) zero n i x at r = behind (block_results b) (flat_map block_results bs) x (in_block (Some b) n i x at r b refl)
in_blocks (b ∷ bs) (suc k) n i x at r = before (block_results b) (flat_map block_results bs) x (in_blocks bs k n i x at r)

in_function : (o : Option Function) (k n : ℕ) (i : Inst) (x : Name) → inst_in (block_in o k) n ≡ Some i → i.result ≡ Some x → Has (register_names_of o) x
in_function None k n i x at r = let f : ⊥ = cc in absurd f
in_function (Some f) k n i x at r = before (map param_name f.params) (flat_map block_results f.blocks) x (in_blocks f.blocks k n i x at r)

-- ---- a name in a list has a place

HasPlace : Option ℕ → Type 0
HasPlace o = (n : ℕ) × (o ≡ Some n)

found_by : (at : ℕ) (ys : List Name) (y x : Name) (b : Bool) → bytes_eq y x ≡ b → (y ≡ x) ⊎ Has ys x → (Has ys x → (n : ℕ) × (place_from (at + 1) ys x ≡ Some n)) → (n : ℕ) × ((if b then Some at else place_from (at + 1) ys x) ≡ Some n)
found_by at ys y x true e h rest = (at, refl)
found_by at ys y x false e (inl same) rest = let yes : bytes_eq y x ≡ true = (bytes_eq-Decides y x).1 same in let f : ⊥ = cc in absurd f
found_by at ys y x false e (inr h) rest = rest h

has_place : (at : ℕ) (ys : List Name) (x : Name) → Has ys x → (n : ℕ) × (place_from at ys x ≡ Some n)
has_place at [] x h = absurd h
has_place at (y ∷ ys) x h = found_by at ys y x (bytes_eq y x) refl h (has_place (at + 1) ys x)

place_is : (names : List Name) (x : Name) → Has names x → IsPlaceOf names (Some x) (place_in names x)
place_is names x h = let p = has_place 0 names x h in (p.0, p.1, refl)

-- the result of an instruction has a place among the registers of its function
result_at : (m : Module) (fs : List FrameData) (i : Inst) (x : Name) → first_inst m fs ≡ Some i → i.result ≡ Some x → Has (first_names m fs) x
result_at m [] i x at r = let f : ⊥ = cc in absurd f
result_at m (g ∷ outer) i x at r = in_function (slice_get m.functions g.function) g.block g.index i x at r

pub result_is : (m : Module) (s : ThreadData) (i : Inst) (x : Name) → inst_of m s ≡ Some i → i.result ≡ Some x → IsPlaceOf (names_of m s) (Some x) (place_in (names_of m s) x)
result_is m s i x at r = place_is (names_of m s) x (result_at m (reverse s.frames.items) i x at r)

-- so has each result in a block
pub block_places : (m : Module) (k b : ℕ) (block : Block) → block_in (slice_get m.functions k) b ≡ Some block → HavePlaces (register_names m k) block.insts
block_places m k b block is n i x at r = has_place 0 (register_names m k) x (in_function (slice_get m.functions k) b n i x (ap (λ o. inst_in o n) is ∙ at) r)
