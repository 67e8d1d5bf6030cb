-- Pointers and numbers are told apart.
use Rattle.std.proofs.Common.{◌≡◌, ℕ, zero, suc, ◌+◌, ◌/◌, ◌%◌, ◌^◌, ◌<◌, ◌≤◌, List, [], ◌∷◌, ℤ, pos, negsuc, Bool, true, false, ◌&&◌, Option, Some, None, Result, Ok, Err, refl, ap, ◌∙◌, subst, arith, nat_le, pow_pos, mod-lt}
use Rattle.std.specs.Prelude.{if◌then◌else◌}
use Rattle.std.specs.FinMap as fin
use Rattle.std.specs.Ordering.{int_eq}
use Rattle.std.proofs.lemmas.Bool.{and_parts, eqb-true, eq-eqb, le-leb, leb-true}
use Rattle.std.proofs.lemmas.Bool.Decides.{Decides-int_eq}
use Rattle.std.proofs.lemmas.Cmp.{eq_by_cmp_equiv}
use Rattle.mem_model.specs.declared.memory.BlockName.{BlockName}
use Rattle.mem_model.specs.declared.memory.Ptr.{Ptr}
use Rattle.mem_model.specs.declared.memory.Ptr.TheVariants.{Num as Number, At}
use Rattle.mem_model.specs.declared.memory.Byte.{Byte}
use Rattle.mem_model.specs.declared.memory.Byte.TheVariants.{Num, Part}
use Rattle.mem_model.specs.declared.memory.Word.{Word}
use Rattle.mem_model.specs.declared.memory.Word.TheVariants.{Int, Ptr as Address}
use Rattle.mem_model.specs.declared.memory.Cell.TheVariants.{Int as IntCell, Ptr as PtrCell}
use Rattle.mem_model.specs.declared.step.Trap.{Trap}
use Rattle.mem_model.specs.declared.step.Trap.TheVariants.{NotNumber, Released, OutOfBlock, Constant}
use Rattle.mem_model.specs.Blocks.{same_block, same_ptr}
use Rattle.mem_model.specs.Words.{cell_size, number_in, integer_word, pointer_bytes}
use Rattle.mem_model.specs.Memory.{Memory, Header, Shares, inside, unless, then_unless, access, byte_or_zero, bytes_at, load_from, Load}
use Rattle.mem_model.specs.MemoryLaws.{Holds, SameBlock, SamePointer, LoadFits, AddressIsNoNumber}
use Rattle.mem_model.proofs.Orders.{block_total, block_same}
use Rattle.mem_model.proofs.WordLaws.{same_self}
use Rattle.mem_model.proofs.StoreLaws.{access_reads, put_back, stored_at, Stored, stored}

pub tells_blocks : SameBlock
tells_blocks a b = (block_same a b, λ e. subst (λ x. same_block a x ≡ true) e ((eq_by_cmp_equiv block_total).refl a))

pointer_same : (p q : Ptr) → same_ptr p q ≡ true → p ≡ q
pointer_same (Number m) (Number n) e = ap (λ (k : ℕ). Number k) (eqb-true m n e)
pointer_same (Number m) (At b p) e = absurd (let f : ⊥ = cc in f)
pointer_same (At a o) (Number n) e = absurd (let f : ⊥ = cc in f)
pointer_same (At a o) (At b p) e = both (and_parts (same_block a b) (int_eq o p) e)
  where
    both : (same_block a b ≡ true) × (int_eq o p ≡ true) → At a o ≡ At b p
    both q = λ i. At (block_same a b q.0 i) ((Decides-int_eq o p).0 q.1 i)

pointer_self : (p : Ptr) → same_ptr p p ≡ true
pointer_self (Number n) = eq-eqb n n refl
pointer_self (At block offset) = same_self block offset

pub tells_pointers : SamePointer
tells_pointers p q = (pointer_same p q, λ e. subst (λ x. same_ptr p x ≡ true) e (pointer_self p))

-- ---- an integer that is loaded

word_fits : (width : ℕ) (n : Option ℕ) (word : Word) → integer_word width n ≡ Ok word → Holds (IntCell width) word
word_fits width None word e = absurd (let f : ⊥ = cc in f)
word_fits width (Some n) word e = subst (λ w. Holds (IntCell width) w) (let same : Int (n % 2 ^ width) ≡ word = cc in same) (mod-lt n (pow_pos width))

load_from_fits : (m : Memory) (b : BlockName) (width : ℕ) (word : Word) (r : Result ℕ Trap) → load_from m b (IntCell width) r ≡ Ok word → Holds (IntCell width) word
load_from_fits m b width word (Err trap) e = absurd (let f : ⊥ = cc in f)
load_from_fits m b width word (Ok o) e = word_fits width (number_in (bytes_at m b o (cell_size (IntCell width)))) word e

pub load_fits : LoadFits
load_fits m (Number n) width word e = absurd (let f : ⊥ = cc in f)
load_fits m (At b place) width word e = load_from_fits m b width word _ e

-- ---- an integer where an address was stored

-- where many bytes may be read, fewer may
fewer : (released : Bool) (size : ℕ) (offset : ℤ) (many few o : ℕ) (constant : Bool) → few ≤ many → unless released Released (then_unless (inside size offset many) (false && constant) Constant) ≡ Ok o → unless released Released (then_unless (inside size offset few) (false && constant) Constant) ≡ Ok o
fewer true size offset many few o constant less e = absurd (let f : ⊥ = cc in f)
fewer false size (negsuc x) many few o constant less e = absurd (let f : ⊥ = cc in f)
fewer false size (pos x) many few o constant less e = fits (nat_le (x + many) size) refl e
  where
    fits : (t : Bool) → nat_le (x + many) size ≡ t → then_unless (if t then Ok x else Err OutOfBlock) false Constant ≡ Ok o → then_unless (if nat_le (x + few) size then Ok x else Err OutOfBlock) false Constant ≡ Ok o
    fits false q p = absurd (let f : ⊥ = cc in f)
    fits true q p = ap (λ t. then_unless (if t then Ok x else Err OutOfBlock) false Constant) (le-leb (x + few) size (let within : x + many ≤ size = leb-true (x + many) size q in omega arith)) ∙ p

access_fewer : (h : Option Header) (offset : ℤ) (many few o : ℕ) → few ≤ many → access h offset many false ≡ Ok o → access h offset few false ≡ Ok o
access_fewer None offset many few o less e = absurd (let f : ⊥ = cc in f)
access_fewer (Some header) offset many few o less e = fewer header.released header.size offset many few o header.constant less e

no_number : (m : Memory) (b : BlockName) (o count : ℕ) (q : Ptr) (k : ℕ) → 0 < count → byte_or_zero (fin.get m.bytes (b, o)) ≡ Part q k → number_in (bytes_at m b o count) ≡ None
no_number m b o zero q k some e = absurd (let f : ⊥ = omega arith in f)
no_number m b o (suc count) q k some e = ap (λ byte. number_in (byte ∷ bytes_at m b (o + 1) count)) e

first_byte : List Byte → Byte
first_byte [] = Num 0
first_byte (byte ∷ bytes) = byte

first_is : (m : Memory) (b : BlockName) (o : ℕ) (block : BlockName) (offset : ℤ) → byte_or_zero (fin.get (stored_at m b o (pointer_bytes (At block offset))).bytes (b, o)) ≡ Part (At block offset) 0
unfolding first_byte
first_is m b o block offset = ap first_byte (put_back m m.bytes b o (pointer_bytes (At block offset)))

pub address_is_no_number : AddressIsNoNumber
address_is_no_number m after (Number n) block offset width some most e = absurd (let f : ⊥ = cc in f)
address_is_no_number m after (At b place) block offset width some most e = subst (λ a. Load a (At b place) (IntCell width) ≡ Err NotNumber) st.leaves loads
  where
    st : Stored m after b PtrCell (Shares (Address (At block offset))) (access (fin.get m.blocks b) place 8 true)
    st = stored m after b PtrCell (Shares (Address (At block offset))) _ e

    loads : Load (stored_at m b st.offset (pointer_bytes (At block offset))) (At b place) (IntCell width) ≡ Err NotNumber
    loads =
        ap (load_from (stored_at m b st.offset (pointer_bytes (At block offset))) b (IntCell width)) (access_fewer (fin.get m.blocks b) place 8 ((width + 7) / 8) st.offset (omega arith) (access_reads (fin.get m.blocks b) place 8 st.offset st.begins_at))
        ∙ ap (integer_word width) (no_number (stored_at m b st.offset (pointer_bytes (At block offset))) b st.offset ((width + 7) / 8) (At block offset) 0 (omega arith) (first_is m b st.offset block offset))
