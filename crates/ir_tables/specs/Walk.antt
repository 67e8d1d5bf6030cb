-- The way that the indices of a getelementptr go into a type, one after another.
use Rattle.std.specs.Prelude.{◌≡◌, ℤ, pos, negsuc, ◌*ℤ◌, List, ◌∷◌, take, slice_get, Option, Some, None, option_map}
use Rattle.std.specs.Borrow.{Bor}
use Rattle.std.specs.Int.{int_wrap, w64}
use Rattle.ir_core.specs.declared.types.Ty.{Ty}
use Rattle.ir_core.specs.declared.module.TypeDef.{TypeDef}
use Rattle.ir_core.specs.Layout.{Parts, Items, Fields, NoParts, plus, inner_offset, WellFormed, Offset}
use Rattle.ir_tables.specs.declared.named.Named.{Named}
use Rattle.ir_tables.specs.declared.offsets.Inside.{Inside}
use Rattle.ir_tables.specs.declared.offsets.Inside.TheVariants.{Items as ItemsInside, Fields as FieldsInside, Nothing}
use Rattle.ir_tables.specs.declared.offsets.Walk.{Walk}
use Rattle.ir_tables.specs.Laid.{laid_of, fields_laid, stride, start}
use Rattle.ir_tables.specs.Named.{name_laid}

-- what the code has an index go into
abbrev pub parts_seen : Inside → Parts
parts_seen (ItemsInside item) = Items item.now
parts_seen (FieldsInside fields) = Fields fields.now
parts_seen Nothing = NoParts

-- how far an index goes, and into which type
abbrev pub Step : Type 0
Step = ℤ × Ty

abbrev pub step_seen : ℤ × Bor Ty → Step
step_seen p = (p.0, p.1.now)

abbrev pub field_step : Named → List Ty → Ty → Step
field_step named before field = (start (fields_laid (name_laid named) before) (laid_of (name_laid named) field), field)

abbrev pub step_into : Named → ℤ → Parts → Option Step
step_into named i (Items item) = Some (int_wrap w64 (i *ℤ stride (laid_of (name_laid named) item)), item)
step_into named (pos i) (Fields fields) = option_map (field_step named (take i fields)) (slice_get fields i)
step_into named (negsuc i) (Fields fields) = None
step_into named i NoParts = None

-- ---- walks

abbrev pub rest_offset : List TypeDef → Ty → Option ℤ → List ℤ → Option ℤ
rest_offset types ty None path = Offset types ty path
rest_offset types ty (Some sum) path = option_map (λ n. int_wrap w64 n) (plus sum (inner_offset types path ty))

-- what a whole path adds, where these indices come behind those of a walk; none where one of them goes into nothing
abbrev pub offset_from : List TypeDef → Walk → List ℤ → Option ℤ
offset_from types walk path = rest_offset types walk.inner.now walk.sum path

-- a walk has come into a well-formed type
abbrev pub StandsIn : List TypeDef → Walk → Type 0
StandsIn types walk = WellFormed types walk.inner.now

-- one index further: what is left of a path then adds what the index with it did before
abbrev pub WalksInto : List TypeDef → Walk → ℤ → Option Walk → Type 0
WalksInto types walk index None = (path : List ℤ) → offset_from types walk (index ∷ path) ≡ None
WalksInto types walk index (Some next) = StandsIn types next × ((path : List ℤ) → offset_from types next path ≡ offset_from types walk (index ∷ path))
