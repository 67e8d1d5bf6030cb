-- The memory that kept blocks are: what it shows at each place, and what it becomes where one block changes.
use Rattle.std.proofs.Common.{◌≡◌, ℕ, suc, ◌+◌, ◌-◌, ◌<◌, ◌≤◌, List, [], ◌∷◌, length, map, Bool, true, false, cond, not, Option, Some, None, refl, sym, ap, ◌∙◌, arith, ⊎_elim}
use Rattle.std.specs.Prelude.{option_map, slice_get}
use Rattle.std.specs.FinMap as fin
use Rattle.std.specs.FinMap.{FinMap, IsAntisymmetric, find, same_map, get-from_entries, get-retain_keys, get-empty}
use Rattle.std.specs.Map.{lookup}
use Rattle.std.specs.Ordering.{eq_by_cmp, nat_cmp, is_eq}
use Rattle.std.specs.declared.cmp.Ordering.TheVariants.{Equal}
use Rattle.std.proofs.lemmas.Bool.{and_parts, cases_eq, cases_lt, false≢true}
use Rattle.std.proofs.lemmas.Option.{slice_get_past}
use Rattle.mem_model.specs.declared.memory.BlockName.{BlockName}
use Rattle.mem_model.specs.declared.memory.Byte.{Byte}
use Rattle.mem_model.specs.declared.block.Block.{Block}
use Rattle.mem_model.specs.Blocks.{block_cmp, place_cmp, same_block}
use Rattle.mem_model.specs.Orders.{block_total, block_equiv}
use Rattle.mem_model.specs.Memory.{Memory, no_blocks, Header, put_bytes}
use Rattle.mem_model.specs.Kept.{header_of, named_header, kept_bytes, memory_of}
use Rattle.mem_model.proofs.Orders.{place_total, both_equal, number_same, block_same}
use Rattle.mem_model.proofs.StoreLaws.{insert_here, put_apart}

-- the block of a name
abbrev pub found : BlockName → List (BlockName × Block) → Option Block
found q es = lookup (eq_by_cmp block_cmp q) es

abbrev pub byte_in : Option Block → ℕ → Option Byte
byte_in None i = None
byte_in (Some b) i = slice_get b.bytes.items i

-- ---- the headers

found_header : (test : Bool) (b : Block) (o : Option Block) (h : Option Header) → h ≡ option_map header_of o → cond test (Some (header_of b)) h ≡ option_map header_of (cond test (Some b) o)
found_header true b o h e = refl
found_header false b o h e = e

find_header : (q : BlockName) (es : List (BlockName × Block)) → find block_cmp q (map named_header es) ≡ option_map header_of (found q es)
find_header q [] = refl
find_header q (e ∷ es) = found_header (eq_by_cmp block_cmp q e.0) e.1 (found q es) _ (find_header q es)

pub blocks_get : (es : List (BlockName × Block)) (q : BlockName) → fin.get (memory_of es).blocks q ≡ option_map header_of (found q es)
unfolding memory_of
blocks_get es q = get-from_entries block_total (map named_header es) q ∙ find_header q es

-- ---- the bytes

pub put_at : (y : FinMap place_cmp Byte) (a : BlockName) (at : ℕ) (xs : List Byte) (k : ℕ) → at ≤ k → k < at + length xs → fin.get (put_bytes y a at xs) (a, k) ≡ slice_get xs (k - at)
put_at y a at [] k low high = absurd (omega arith)
put_at y a at (x ∷ xs) k low high = ⊎_elim here (later (put_at (fin.insert y (a, at) x) a (at + 1) xs k)) (cases_eq k at)
  where
    here : k ≡ at → fin.get (put_bytes (fin.insert y (a, at) x) a (at + 1) xs) (a, k) ≡ slice_get (x ∷ xs) (k - at)
    here e = put_apart (fin.insert y (a, at) x) a (at + 1) xs a k (λ s l h. omega arith) ∙ ap (λ j. fin.get (fin.insert y (a, at) x) (a, j)) e ∙ insert_here y a at x ∙ ap (slice_get (x ∷ xs)) (let z : 0 ≡ k - at = omega arith in z)

    later : (at + 1 ≤ k → k < at + 1 + length xs → fin.get (put_bytes (fin.insert y (a, at) x) a (at + 1) xs) (a, k) ≡ slice_get xs (k - (at + 1))) → (k ≡ at → ⊥) → fin.get (put_bytes (fin.insert y (a, at) x) a (at + 1) xs) (a, k) ≡ slice_get (x ∷ xs) (k - at)
    later again ne = again (omega arith) (omega arith) ∙ ap (slice_get (x ∷ xs)) (let z : suc (k - (at + 1)) ≡ k - at = omega arith in z)

-- the places that lie in another block
abbrev elsewhere : BlockName → BlockName × ℕ → Bool
elsewhere a place = not (same_block a place.0)

elsewhere_alike : (a : BlockName) (p x : BlockName × ℕ) → place_cmp p x ≡ Equal → elsewhere a x ≡ elsewhere a p
elsewhere_alike a p x e =
    let parts : (same_block p.0 x.0 ≡ true) × (is_eq (nat_cmp p.1 x.1) ≡ true) = and_parts _ _ (sym (both_equal (block_cmp p.0 x.0) (nat_cmp p.1 x.1)) ∙ ap is_eq e) in
    ap (λ b. not (same_block a b)) (sym (block_same p.0 x.0 parts.0))

retained : (y : FinMap place_cmp Byte) (a q : BlockName) (i : ℕ) (t : Bool) → same_block a q ≡ t → fin.get (fin.retain_keys y (elsewhere a)) (q, i) ≡ cond (not t) (fin.get y (q, i)) None
retained y a q i t e = get-retain_keys y (elsewhere a) (q, i) (elsewhere_alike a (q, i)) ∙ ap (λ s. cond (not s) (fin.get y (q, i)) None) e

pub bytes_kept : (es : List (BlockName × Block)) (q : BlockName) (i : ℕ) → fin.get (kept_bytes es) (q, i) ≡ byte_in (found q es) i
bytes_kept [] q i = get-empty place_cmp (q, i)
bytes_kept (e ∷ es) q i = by_test (bytes_kept es q i) (same_block q e.0) refl
  where
    rest : FinMap place_cmp Byte
    rest = fin.retain_keys (kept_bytes es) (elsewhere e.0)

    turned : (t : Bool) → same_block q e.0 ≡ t → same_block e.0 q ≡ t
    turned t is = block_equiv.symm e.0 q ∙ is

    inner : same_block q e.0 ≡ true → fin.get (put_bytes rest e.0 0 e.1.bytes.items) (q, i) ≡ slice_get e.1.bytes.items i
    inner is = ap (λ b. fin.get (put_bytes rest e.0 0 e.1.bytes.items) (b, i)) (block_same q e.0 is) ∙ ⊎_elim within past (cases_lt i (length e.1.bytes.items))
      where
        within : i < length e.1.bytes.items → fin.get (put_bytes rest e.0 0 e.1.bytes.items) (e.0, i) ≡ slice_get e.1.bytes.items i
        within lt = put_at rest e.0 0 e.1.bytes.items i (omega arith) (omega arith) ∙ ap (slice_get e.1.bytes.items) (let z : i - 0 ≡ i = omega arith in z)

        past : length e.1.bytes.items ≤ i → fin.get (put_bytes rest e.0 0 e.1.bytes.items) (e.0, i) ≡ slice_get e.1.bytes.items i
        past le = put_apart rest e.0 0 e.1.bytes.items e.0 i (λ s l h. omega arith) ∙ retained (kept_bytes es) e.0 e.0 i true (block_equiv.refl e.0) ∙ sym (slice_get_past e.1.bytes.items i le)

    by_test : fin.get (kept_bytes es) (q, i) ≡ byte_in (found q es) i → (t : Bool) → same_block q e.0 ≡ t → fin.get (put_bytes rest e.0 0 e.1.bytes.items) (q, i) ≡ byte_in (cond (same_block q e.0) (Some e.1) (found q es)) i
    by_test rec true is = inner is ∙ ap (λ t. byte_in (cond t (Some e.1) (found q es)) i) (sym is)
    by_test rec false is =
        put_apart rest e.0 0 e.1.bytes.items q i (λ s l h. false≢true (sym is ∙ ap (λ b. same_block b e.0) s ∙ block_equiv.refl e.0))
        ∙ retained (kept_bytes es) e.0 q i false (turned false is)
        ∙ rec
        ∙ ap (λ t. byte_in (cond t (Some e.1) (found q es)) i) (sym is)

pub bytes_get : (es : List (BlockName × Block)) (q : BlockName) (i : ℕ) → fin.get (memory_of es).bytes (q, i) ≡ byte_in (found q es) i
unfolding memory_of
bytes_get es q i = bytes_kept es q i

-- ---- a memory is what it shows

block_exact : IsAntisymmetric block_cmp
block_exact x y e = block_same x y (ap is_eq e)

place_exact : IsAntisymmetric place_cmp
place_exact x y e =
    let parts : (same_block x.0 y.0 ≡ true) × (is_eq (nat_cmp x.1 y.1) ≡ true) = and_parts _ _ (sym (both_equal (block_cmp x.0 y.0) (nat_cmp x.1 y.1)) ∙ ap is_eq e) in
    λ i. (block_same x.0 y.0 parts.0 i, number_same x.1 y.1 parts.1 i)

pub same_memory : (m n : Memory) → ((q : BlockName) → fin.get m.blocks q ≡ fin.get n.blocks q) → ((q : BlockName) (i : ℕ) → fin.get m.bytes (q, i) ≡ fin.get n.bytes (q, i)) → m ≡ n
same_memory m n blocks bytes = λ i. record { blocks = same_map block_total block_exact m.blocks n.blocks blocks i; bytes = same_map place_total place_exact m.bytes n.bytes (λ p. bytes p.0 p.1) i }

pub memory_is : (es : List (BlockName × Block)) (m : Memory) → ((q : BlockName) → option_map header_of (found q es) ≡ fin.get m.blocks q) → ((q : BlockName) (i : ℕ) → byte_in (found q es) i ≡ fin.get m.bytes (q, i)) → memory_of es ≡ m
memory_is es m blocks bytes = same_memory (memory_of es) m (λ q. blocks_get es q ∙ blocks q) (λ q i. bytes_get es q i ∙ bytes q i)

pub memory_of_none : memory_of [] ≡ no_blocks
unfolding memory_of
memory_of_none = refl
