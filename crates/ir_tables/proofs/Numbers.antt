-- What is kept of a layout stays so as layouts are put together.
use Rattle.std.proofs.Common.{◌≡◌, ℕ, zero, suc, ◌⊎◌, inl, inr, ◌+◌, ◌*◌, ◌%◌, ◌^◌, ◌≤◌, ◌<◌, max, refl, ap, ◌∙◌, arith, zero-mul}
use Rattle.std.proofs.lemmas.Nat.{mul-mod_second, mul-le}
use Rattle.std.proofs.lemmas.Bool.{cases_lt}
use Rattle.ir_core.specs.Layout.{Layout, aligned, field_end, greater_align, array_layout}
use Rattle.ir_tables.specs.declared.laid.Align.{Align}
use Rattle.ir_tables.specs.declared.laid.Align.TheVariants.{One, Two, Four, Eight}
use Rattle.ir_tables.specs.declared.laid.Laid.{Laid}
use Rattle.ir_tables.specs.Laid.{Keeps, align_bytes, cut, array_laid, greater, with_field, padded}

-- a number that is cut may be cut before
cut-aligned : (n : ℕ) (a : Align) → cut (aligned (cut n) (align_bytes a)) ≡ cut (aligned n (align_bytes a))
cut-aligned n One = omega arith
cut-aligned n Two = omega arith
cut-aligned n Four = omega arith
cut-aligned n Eight = omega arith

cut-add : (m n : ℕ) → cut (cut m + cut n) ≡ cut (m + n)
cut-add m n = omega arith

low-aligned : (n : ℕ) (a : Align) → aligned (n % 2 ^ 64) (align_bytes a) % 2 ^ 64 ≡ aligned n (align_bytes a) % 2 ^ 64
low-aligned n One = omega arith
low-aligned n Two = omega arith
low-aligned n Four = omega arith
low-aligned n Eight = omega arith

low-add : (m n p : ℕ) → m % 2 ^ 64 ≡ p % 2 ^ 64 → (m + n % 2 ^ 64) % 2 ^ 64 ≡ (p + n) % 2 ^ 64
low-add m n p same = omega arith

greater_bytes : (a b : Align) → align_bytes (greater a b) ≡ max (align_bytes a) (align_bytes b)
greater_bytes One One = refl
greater_bytes One Two = refl
greater_bytes One Four = refl
greater_bytes One Eight = refl
greater_bytes Two One = refl
greater_bytes Two Two = refl
greater_bytes Two Four = refl
greater_bytes Two Eight = refl
greater_bytes Four One = refl
greater_bytes Four Two = refl
greater_bytes Four Four = refl
greater_bytes Four Eight = refl
greater_bytes Eight One = refl
greater_bytes Eight Two = refl
greater_bytes Eight Four = refl
greater_bytes Eight Eight = refl

times_large : (n size : ℕ) → 2 ^ 64 ≤ size → cut (n * cut size) ≡ cut (n * size)
times_large zero size large = omega (arith, zero-mul (cut size), zero-mul size)
times_large (suc n) size large = omega (arith, mul-le 1 (cut size) (suc n) (cut size) (omega arith) (omega arith), mul-le 1 size (suc n) size (omega arith) (omega arith))

cut-mul : (n size : ℕ) → cut (n * cut size) ≡ cut (n * size)
cut-mul n size = by (cases_lt size (2 ^ 64))
  where
    by : (size < 2 ^ 64) ⊎ (2 ^ 64 ≤ size) → cut (n * cut size) ≡ cut (n * size)
    by (inl small) = let whole : cut size ≡ size = omega arith in ap (λ m. cut (n * m)) whole
    by (inr large) = times_large n size large

pub Keeps-array : (n : ℕ) (a : Laid) (l : Layout) → Keeps a l → Keeps (array_laid n a) (array_layout n l)
Keeps-array n a l k = record {
  size = ap (λ m. cut (n * m)) k.size ∙ cut-mul n l.size;
  low = ap (λ m. (n * m) % 2 ^ 64) k.low ∙ mul-mod_second n l.size (2 ^ 64);
  align = k.align;
}

-- where a field starts
pub start_kept : (a : Laid) (b : Laid) (l m : Layout) → Keeps a l → Keeps b m → aligned a.low (align_bytes b.align) % 2 ^ 64 ≡ aligned l.size m.align % 2 ^ 64
start_kept a b l m k j = ap (λ n. aligned n (align_bytes b.align) % 2 ^ 64) k.low ∙ low-aligned l.size b.align ∙ ap (λ n. aligned l.size n % 2 ^ 64) j.align

-- a struct's layout with one more field
abbrev pub next_layout : Layout → Layout → Layout
next_layout whole field = record { size = field_end whole.size field; align = greater_align whole.align field }

pub Keeps-field : (a b : Laid) (l m : Layout) → Keeps a l → Keeps b m → Keeps (with_field a b) (next_layout l m)
Keeps-field a b l m k j =
    let round : cut (aligned a.size (align_bytes b.align)) ≡ cut (aligned l.size m.align) = ap (λ n. cut (aligned n (align_bytes b.align))) k.size ∙ cut-aligned l.size b.align ∙ ap (λ n. cut (aligned l.size n)) j.align in
    let low : aligned a.low (align_bytes b.align) % 2 ^ 64 ≡ aligned l.size m.align % 2 ^ 64 = start_kept a b l m k j in
    record {
      size = ap (λ n. cut (n + b.size)) round ∙ ap (λ n. cut (cut (aligned l.size m.align) + n)) j.size ∙ cut-add (aligned l.size m.align) m.size;
      low = ap (λ n. (aligned a.low (align_bytes b.align) + n) % 2 ^ 64) j.low ∙ low-add (aligned a.low (align_bytes b.align)) m.size (aligned l.size m.align) low;
      align = greater_bytes a.align b.align ∙ ap (λ n. max n (align_bytes b.align)) k.align ∙ ap (max l.align) j.align;
    }

-- a struct's layout with its padding
abbrev pub padded_layout : Layout → Layout
padded_layout whole = record { size = aligned whole.size whole.align; align = whole.align }

pub Keeps-padded : (a : Laid) (l : Layout) → Keeps a l → Keeps (padded a) (padded_layout l)
Keeps-padded a l k = record {
  size = ap (λ n. cut (aligned n (align_bytes a.align))) k.size ∙ cut-aligned l.size a.align ∙ ap (λ n. cut (aligned l.size n)) k.align;
  low = ap (λ n. aligned n (align_bytes a.align) % 2 ^ 64) k.low ∙ low-aligned l.size a.align ∙ ap (λ n. aligned l.size n % 2 ^ 64) k.align;
  align = k.align;
}
