-- Two memories that agree but for the capture area: loads, stores and updates agree.
use Rattle.std.proofs.Common.{◌≡◌, ℕ, zero, suc, ◌+◌, List, [], ◌∷◌, length, map, Bool, true, false, cond, Some, None, Result, Ok, Err, refl, sym, ap, ◌∙◌, subst, inl, inr, ◌⊎◌}
use Rattle.std.specs.FinMap as fin
use Rattle.std.specs.FinMap.{FinMap, get-insert}
use Rattle.std.specs.Ordering.{eq_by_cmp}
use Rattle.mem_model.specs.declared.memory.BlockName.{BlockName}
use Rattle.mem_model.specs.declared.memory.BlockName.TheVariants.{Arg, Global, Heap, Stack, Captures, Code}
use Rattle.mem_model.specs.declared.memory.Ptr.{Ptr}
use Rattle.mem_model.specs.declared.memory.Ptr.TheVariants.{Num as Number, At}
use Rattle.mem_model.specs.declared.memory.Byte.{Byte}
use Rattle.mem_model.specs.declared.memory.Word.{Word}
use Rattle.mem_model.specs.declared.memory.Word.TheVariants.{Int, Ptr as Address}
use Rattle.mem_model.specs.declared.memory.Cell.{Cell}
use Rattle.mem_model.specs.declared.step.Trap.{Trap}
use Rattle.mem_model.specs.declared.step.Trap.TheVariants.{NoBlock}
use Rattle.mem_model.specs.Blocks.{block_cmp, place_cmp}
use Rattle.mem_model.specs.Words.{cell_size, word_bytes, word_in}
use Rattle.mem_model.specs.Memory.{Memory, Given, Shares, Leaks, access, byte_or_zero, bytes_at, load_from, Load, put_bytes, store_given, store_to, Store, header_size, shown_byte, shown_block, with_block}
use Rattle.mem_model.specs.Update.{Updated, update_number, update_at, Update}
use Rattle.mem_model.proofs.Orders.{block_total, place_total}
use Rattle.mem_model.proofs.StoreLaws.{put_apart}

-- every block but the capture area
abbrev pub IsPlain : BlockName → Type 0
IsPlain Captures = ⊥
IsPlain _ = Unit {0}

-- old lacks the capture area, and new has the same of all else
pub record Alike (old new : Memory) : Type 0 where
  pub lacks : fin.get old.blocks Captures ≡ None
  pub blocks : (b : BlockName) → IsPlain b → fin.get new.blocks b ≡ fin.get old.blocks b
  pub bytes : (b : BlockName) (o : ℕ) → IsPlain b → fin.get new.bytes (b, o) ≡ fin.get old.bytes (b, o)

-- a name is that of the capture area, or another
pub captures_or_plain : (b : BlockName) → (b ≡ Captures) ⊎ IsPlain b
captures_or_plain Captures = inl refl
captures_or_plain (Arg n) = inr tt
captures_or_plain (Global n) = inr tt
captures_or_plain (Heap n) = inr tt
captures_or_plain (Stack t n) = inr tt
captures_or_plain (Code n) = inr tt

pub bytes_alike : (m n : Memory) → Alike m n → (b : BlockName) → IsPlain b → (o k : ℕ) → bytes_at n b o k ≡ bytes_at m b o k
bytes_alike m n a b plain o zero = refl
bytes_alike m n a b plain o (suc k) = λ i. byte_or_zero (a.bytes b o plain i) ∷ bytes_alike m n a b plain (o + 1) k i

load_from_alike : (m n : Memory) → Alike m n → (b : BlockName) → IsPlain b → (c : Cell) (r : Result ℕ Trap) → load_from n b c r ≡ load_from m b c r
load_from_alike m n a b plain c (Err e) = refl
load_from_alike m n a b plain c (Ok o) = ap (word_in c) (bytes_alike m n a b plain o (cell_size c))

-- a load gives the same in both, or finds no block in the old one
pub load_alike : (m n : Memory) → Alike m n → (p : Ptr) (c : Cell) → (Load m p c ≡ Err NoBlock) ⊎ (Load n p c ≡ Load m p c)
load_alike m n a (Number k) c = inr refl
load_alike m n a (At b o) c = elim (captures_or_plain b) [
  | inl e ↦ inl (ap (λ h. load_from m b c (access h o (cell_size c) false)) (ap (fin.get m.blocks) e ∙ a.lacks))
  | inr plain ↦ inr (ap (λ h. load_from n b c (access h o (cell_size c) false)) (a.blocks b plain) ∙ load_from_alike m n a b plain c _)
]

put_alike : (x y : FinMap place_cmp Byte) → ((b : BlockName) (o : ℕ) → IsPlain b → fin.get y (b, o) ≡ fin.get x (b, o)) → (a : BlockName) (at : ℕ) (xs : List Byte) → (b : BlockName) (o : ℕ) → IsPlain b → fin.get (put_bytes y a at xs) (b, o) ≡ fin.get (put_bytes x a at xs) (b, o)
put_alike x y h a at [] b o plain = h b o plain
put_alike x y h a at (v ∷ vs) b o plain =
    put_alike (fin.insert x (a, at) v) (fin.insert y (a, at) v)
    (λ c p q. get-insert place_total y (a, at) v (c, p) ∙ ap (cond (eq_by_cmp place_cmp (c, p) (a, at)) (Some v)) (h c p q) ∙ sym (get-insert place_total x (a, at) v (c, p)))
    a (at + 1) vs b o plain

-- what two stores leave: the same trap, or memories that are alike
abbrev pub BothStored : Result Memory Trap → Result Memory Trap → Type 0
BothStored (Ok m) (Ok n) = Alike m n
BothStored (Err e) (Err f) = e ≡ f
BothStored (Ok m) (Err f) = ⊥
BothStored (Err e) (Ok n) = ⊥

store_given_alike : (m n : Memory) → Alike m n → (b : BlockName) (c : Cell) (o : ℕ) (given : Given) → BothStored (store_given m b c o given) (store_given n b c o given)
store_given_alike m n a b c o Leaks = refl
store_given_alike m n a b c o (Shares word) = record { lacks = a.lacks; blocks = a.blocks; bytes = put_alike m.bytes n.bytes a.bytes b o (word_bytes c word) }

store_to_alike : (m n : Memory) → Alike m n → (b : BlockName) (c : Cell) (given : Given) (r : Result ℕ Trap) → BothStored (store_to m b c given r) (store_to n b c given r)
store_to_alike m n a b c given (Err e) = refl
store_to_alike m n a b c given (Ok o) = store_given_alike m n a b c o given

-- a store leaves memories that are alike, or finds no block in the old one
pub store_alike : (m n : Memory) → Alike m n → (p : Ptr) (c : Cell) (given : Given) → (Store m p c given ≡ Err NoBlock) ⊎ BothStored (Store m p c given) (Store n p c given)
store_alike m n a (Number k) c given = inr refl
store_alike m n a (At b o) c given = elim (captures_or_plain b) [
  | inl e ↦ inl (ap (λ h. store_to m b c given (access h o (cell_size c) true)) (ap (fin.get m.blocks) e ∙ a.lacks))
  | inr plain ↦ inr (subst (λ h. BothStored (Store m (At b o) c given) (store_to n b c given (access h o (cell_size c) true))) (sym (a.blocks b plain)) (store_to_alike m n a b c given _))
]

-- what two updates leave: the same trap, or memories that are alike and the same number from before
abbrev pub BothUpdated : Result Updated Trap → Result Updated Trap → Type 0
BothUpdated (Ok u) (Ok v) = Alike u.memory v.memory × (v.old ≡ u.old)
BothUpdated (Err e) (Err f) = e ≡ f
BothUpdated (Ok u) (Err f) = ⊥
BothUpdated (Err e) (Ok v) = ⊥

update_number_alike : (m n : Memory) → Alike m n → (b : BlockName) (c : Cell) (o : ℕ) (change : ℕ → ℕ) (r : Result Word Trap) → BothUpdated (update_number m b c o change r) (update_number n b c o change r)
update_number_alike m n a b c o change (Err e) = refl
update_number_alike m n a b c o change (Ok (Address p)) = refl
update_number_alike m n a b c o change (Ok (Int k)) = (record { lacks = a.lacks; blocks = a.blocks; bytes = put_alike m.bytes n.bytes a.bytes b o (word_bytes c (Int (change k))) }, refl)

update_at_alike : (m n : Memory) → Alike m n → (b : BlockName) → IsPlain b → (c : Cell) (change : ℕ → ℕ) (r : Result ℕ Trap) → BothUpdated (update_at m b c change r) (update_at n b c change r)
update_at_alike m n a b plain c change (Err e) = refl
update_at_alike m n a b plain c change (Ok o) =
    subst (λ bytes. BothUpdated (update_at m b c change (Ok o)) (update_number n b c o change (word_in c bytes))) (sym (bytes_alike m n a b plain o (cell_size c))) (update_number_alike m n a b c o change _)

-- an update leaves memories that are alike and tells the same number, or finds no block in the old one
pub update_alike : (m n : Memory) → Alike m n → (p : Ptr) (c : Cell) (change : ℕ → ℕ) → (Update m p c change ≡ Err NoBlock) ⊎ BothUpdated (Update m p c change) (Update n p c change)
update_alike m n a (Number k) c change = inr refl
update_alike m n a (At b o) c change = elim (captures_or_plain b) [
  | inl e ↦ inl (ap (λ h. update_at m b c change (access h o (cell_size c) true)) (ap (fin.get m.blocks) e ∙ a.lacks))
  | inr plain ↦ inr (subst (λ h. BothUpdated (Update m (At b o) c change) (update_at n b c change (access h o (cell_size c) true))) (sym (a.blocks b plain)) (update_at_alike m n a b plain c change _))
]

-- ---- what is shown

pub shown_alike : (m n : Memory) → Alike m n → (b : BlockName) → IsPlain b → shown_block n b ≡ shown_block m b
shown_alike m n a b p =
    ap (λ h. map shown_byte (bytes_at n b 0 (header_size h))) (a.blocks b p)
    ∙ ap (map shown_byte) (bytes_alike m n a b p 0 (header_size (fin.get m.blocks b)))

abbrev pub AllPlain : List BlockName → Type 0
AllPlain [] = Unit {0}
AllPlain (b ∷ bs) = IsPlain b × AllPlain bs

pub all_shown_alike : (m n : Memory) → Alike m n → (bs : List BlockName) → AllPlain bs → map (shown_block n) bs ≡ map (shown_block m) bs
all_shown_alike m n a [] h = refl
all_shown_alike m n a (b ∷ bs) h = λ i. shown_alike m n a b h.0 i ∷ all_shown_alike m n a bs h.1 i

-- ---- a capture area that comes

plain_apart : (b : BlockName) → IsPlain b → b ≡ Captures → ⊥
plain_apart b plain e = subst IsPlain e plain

apart_block : (b : BlockName) → IsPlain b → eq_by_cmp block_cmp b Captures ≡ false
apart_block (Arg n) p = refl
apart_block (Global n) p = refl
apart_block (Heap n) p = refl
apart_block (Stack t n) p = refl
apart_block Captures p = absurd p
apart_block (Code n) p = refl

pub captures_alike : (m : Memory) (constant : Bool) (bytes : List Byte) → fin.get m.blocks Captures ≡ None → Alike m (with_block m Captures constant bytes)
captures_alike m constant bytes lacks = record {
  lacks = lacks;
  blocks = λ b p. get-insert block_total m.blocks Captures _ b ∙ ap (λ c. cond c (Some (record { size = length bytes; constant = constant; released = false })) (fin.get m.blocks b)) (apart_block b p);
  bytes = λ b o p. put_apart m.bytes Captures 0 bytes b o (λ e low high. plain_apart b p e);
}
