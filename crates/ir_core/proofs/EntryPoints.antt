-- The table of entry points.
use Rattle.std.proofs.Common.{◌≡◌, ℕ, suc, ◌+◌, ◌<◌, ◌≤◌, List, [], ◌∷◌, Bool, true, false, map, get_or, drop, length, refl, sym, ap, ◌∙◌, true≢false, if◌then◌else◌, add-one, drop-cons}
use Rattle.std.proofs.lemmas.List.{drop_all}
use Rattle.std.proofs.lemmas.Slice.Eq.{bytes_eq-Decides}
use Rattle.std.specs.Str.{bytes_eq}
use Rattle.ir_core.specs.declared.rtl.Rtl.{Rtl}
use Rattle.ir_core.specs.declared.rtl.Rtl.TheVariants.{TargetInit, TargetDeinit, Parallel, AllocShared, FreeShared, GetSharedVariables, Barrier, GlobalThreadNum, ThreadNum, NumThreads, Level, ParallelLevel, InParallel, IsSpmdExecMode, ForStaticInit, ForStaticFini, Print, KernelParallel, KernelEndParallel, SpmdBarrier, GenericBarrier, HardwareThreadId}
use Rattle.ir_core.specs.EntryPoints.{entry_name, entry_points, is_among, is_entry_point}

-- the list has each of them
pub is_listed : (r : Rtl) → is_entry_point (entry_name r) ≡ true
is_listed TargetInit = refl
is_listed TargetDeinit = refl
is_listed Parallel = refl
is_listed AllocShared = refl
is_listed FreeShared = refl
is_listed GetSharedVariables = refl
is_listed Barrier = refl
is_listed GlobalThreadNum = refl
is_listed ThreadNum = refl
is_listed NumThreads = refl
is_listed Level = refl
is_listed ParallelLevel = refl
is_listed InParallel = refl
is_listed IsSpmdExecMode = refl
is_listed ForStaticInit = refl
is_listed ForStaticFini = refl
is_listed Print = refl
is_listed KernelParallel = refl
is_listed KernelEndParallel = refl
is_listed SpmdBarrier = refl
is_listed GenericBarrier = refl
is_listed HardwareThreadId = refl

-- a name that isn't in the table is no entry point's
pub not_listed : (x : List ℕ) → is_entry_point x ≡ false → (r : Rtl) → entry_name r ≡ x → ⊥
not_listed x none r same = absurd (true≢false (sym (is_listed r) ∙ ap is_entry_point same ∙ none))

-- a name that isn't that of one entry point is looked for among the next ones
pub next_among : (rs : List Rtl) (x : List ℕ) (i : ℕ) (d : Rtl) → i < length rs → bytes_eq x (entry_name (get_or rs i d)) ≡ false → is_among (map entry_name (drop (i + 1) rs)) x ≡ is_among (map entry_name (drop i rs)) x
next_among rs x i d low other =
    ap (λ n. is_among (map entry_name (drop n rs)) x) (add-one i)
    ∙ sym (ap (λ b. if b then true else is_among (map entry_name (drop (suc i) rs)) x) other)
    ∙ sym (ap (λ l. is_among (map entry_name l) x) (drop-cons rs i d low))

-- behind the last one is none
pub none_left : (rs : List Rtl) (x : List ℕ) (i : ℕ) → length rs ≤ i → is_among (map entry_name (drop i rs)) x ≡ false
none_left rs x i end = ap (λ l. is_among (map entry_name l) x) (drop_all i rs end)

-- what the list has is an entry point's name
pub named_by : (rs : List Rtl) (x : List ℕ) → is_among (map entry_name rs) x ≡ true → (r : Rtl) × (entry_name r ≡ x)
named_by [] x has = absurd (true≢false (sym has))
named_by (r ∷ rs) x has = by (bytes_eq x (entry_name r)) refl (named_by rs x)
  where
    by : (b : Bool) → bytes_eq x (entry_name r) ≡ b → (is_among (map entry_name rs) x ≡ true → (q : Rtl) × (entry_name q ≡ x)) → (q : Rtl) × (entry_name q ≡ x)
    by true same rest = (r, sym ((bytes_eq-Decides x (entry_name r)).0 same))
    by false other rest = rest (ap (λ b. if b then true else is_among (map entry_name rs) x) (sym other) ∙ has)

-- a name is in the list where it is that of an entry point
pub is_entry_point-some : (x : List ℕ) (r : Rtl) → entry_name r ≡ x → is_entry_point x ≡ true
is_entry_point-some x r same = ap is_entry_point (sym same) ∙ is_listed r

pub is_entry_point-none : (x : List ℕ) → ((r : Rtl) → entry_name r ≡ x → ⊥) → is_entry_point x ≡ false
is_entry_point-none x none = by (is_entry_point x) refl
  where
    by : (b : Bool) → is_entry_point x ≡ b → is_entry_point x ≡ false
    by true has = let found = named_by entry_points x has in absurd (none found.0 found.1)
    by false has = has
