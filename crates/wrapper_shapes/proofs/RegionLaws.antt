-- The first defined function that is called.
use Rattle.std.proofs.Common.{◌≡◌, ℕ, ◌+◌, ◌<◌, List, [], ◌∷◌, ◌++◌, length, drop, get_or, Bool, true, false, Option, Some, None, refl, sym, ap, ◌∙◌, Decides, ◌==◌, add-one, arith, if◌then◌else◌, cond}
use Rattle.std.specs.List.{flat_map, find}
use Rattle.std.specs.Str.{bytes_eq}
use Rattle.std.proofs.lemmas.List.{drop_more}
use Rattle.std.proofs.lemmas.Bool.Decides.{nat_tests}
use Rattle.std.proofs.lemmas.Slice.Eq.{bytes_eq-Decides}
use Rattle.ir_core.specs.declared.instructions.Value.{Value}
use Rattle.ir_core.specs.declared.instructions.Value.TheVariants.{Global as GlobalValue}
use Rattle.ir_core.specs.declared.instructions.Kind.{Kind}
use Rattle.ir_core.specs.declared.instructions.Kind.TheVariants.{Call}
use Rattle.ir_core.specs.declared.module.Block.{Block}
use Rattle.ir_core.specs.declared.module.Function.{Function}
use Rattle.ir_core.specs.declared.rtl.Rtl.{Rtl}
use Rattle.ir_core.specs.EntryPoints.{entry_name}
use Rattle.ir_core.specs.FirstForm.{is_function}
use Rattle.ir_core.specs.Places.{Name}
use Rattle.ir_core.specs.Wrappers.{value_names, kind_callees, is_in, with_blocks, defined, first_of}
use Rattle.shapes.specs.Facts.{calls}

-- ---- a defined function of a name

abbrev pub if_defined : Option Function → Option Function
if_defined None = None
if_defined (Some f) = first_of (with_blocks f f.blocks)

pub defined_is : (fs : List Function) (x : Name) → first_of (defined fs x) ≡ if_defined (find (λ f. bytes_eq f.name x) fs)
defined_is [] x = refl
defined_is (f ∷ fs) x =
    elim (bytes_eq f.name x) as (λ b. first_of (if b then with_blocks f f.blocks else defined fs x) ≡ if_defined (cond b (Some f) (find (λ g. bytes_eq g.name x) fs))) [
      | true ↦ refl
      | false ↦ defined_is fs x
    ]

not_none : (n : ℕ) → (n + 1 == 0) ≡ true → ⊥
not_none n is = grind (arith, nat_tests)

none : (0 == 0) ≡ false → ⊥
none is = grind (arith, nat_tests)

without : (f : Function) (bs : List Block) → true ≡ (length bs == 0) → None ≡ first_of (with_blocks f bs)
without f [] is = refl
without f (b ∷ bs) is = absurd (not_none (length bs) (ap (λ n. n == 0) (add-one (length bs)) ∙ sym is))

pub no_blocks : (fs : List Function) (x : Name) (f : Function) → find (λ g. bytes_eq g.name x) fs ≡ Some f → true ≡ (length f.blocks == 0) → None ≡ first_of (defined fs x)
no_blocks fs x f is empty = without f f.blocks empty ∙ sym (defined_is fs x ∙ ap if_defined is)

with_any : (f : Function) (bs : List Block) → false ≡ (length bs == 0) → Some f ≡ first_of (with_blocks f bs)
with_any f [] is = absurd (none (sym is))
with_any f (b ∷ bs) is = refl

pub with_some : (fs : List Function) (x : Name) (f : Function) → find (λ g. bytes_eq g.name x) fs ≡ Some f → false ≡ (length f.blocks == 0) → Some f ≡ first_of (defined fs x)
with_some fs x f is some = with_any f f.blocks some ∙ sym (defined_is fs x ∙ ap if_defined is)

pub no_function : (fs : List Function) (x : Name) → find (λ g. bytes_eq g.name x) fs ≡ None → None ≡ first_of (defined fs x)
no_function fs x is = sym (defined_is fs x ∙ ap if_defined is)
