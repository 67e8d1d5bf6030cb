-- Modules are read as they are spelled, and nothing else is.
use Rattle.std.proofs.Common.{◌≡◌, ℕ, suc, List, [], ◌∷◌, ◌++◌, Option, Some, None, Bool, true, false, refl, sym, ap, ◌∙◌, subst, ◌⊎◌, inl, inr}
use Rattle.std.proofs.lemmas.List.{append-nil}
use Rattle.ir_core.specs.declared.types.Ty.{Ty}
use Rattle.ir_core.specs.declared.module.Init.{Init}
use Rattle.ir_core.specs.declared.module.Init.TheVariants.{Addr}
use Rattle.ir_core.specs.declared.module.Global.{Global as GlobalItem}
use Rattle.ir_core.specs.Tokens.{Lexeme}
use Rattle.ir_core.specs.Spell.{SameNext, IsFirstRefused, any, many, one, IsWordIn, IsMark, with_line, mark}
use Rattle.ir_core.specs.Spell as spell
use Rattle.ir_core.specs.Forms.{IsGlobal, IsItemName, maybe, next, nesting_limit, begins_with_llvm}
use Rattle.ir_core.specs.Instructions.{next_alignment}
use Rattle.ir_core.specs.Language.{IsPlainInit, PlainInit, SquareInit, BracesInit, init_in, some_init, section_word, comdat_word}
use Rattle.read_items.specs.Globals.{Named, Contents, holding, inner_limit, NameFirst, OtherFirst, global_item}
use Rattle.read_items.proofs.WordLaws.{Tail}
use Rattle.read_items.proofs.Contents.{Address, ByName, OtherForm, WithInit, HoldsOf}

-- ---- the grammar of a global, and the one that goes with the reading

limit_is : nesting_limit ≡ suc inner_limit
unfolding nesting_limit inner_limit
limit_is = refl

-- what is behind the type, as the grammar has it
abbrev pub EndOf : Named → List (List ℕ) → Bool → Ty → List Lexeme → GlobalItem → Type 0
EndOf name words constant ty =
    spell.◌>>=◌ (maybe None (some_init ty)) (λ init. spell.◌>>=◌ (maybe tt (next section_word)) (λ sec. spell.◌>>=◌ (maybe tt (next comdat_word)) (λ shared.
    spell.◌>>=◌ next_alignment (λ align. spell.done (record { name = name.0; words = words; constant = constant; ty = ty; init = init; align = align; line = name.1 })))))

abbrev TailEnd : Named → List (List ℕ) → Bool → Ty → Option Init → List Lexeme → GlobalItem → Type 0
TailEnd name words constant ty init =
    spell.◌>>=◌ (maybe tt (next section_word)) (λ sec. spell.◌>>=◌ (maybe tt (next comdat_word)) (λ shared.
    spell.◌>>=◌ next_alignment (λ align. spell.done (record { name = name.0; words = words; constant = constant; ty = ty; init = init; align = align; line = name.1 }))))

-- a tail, and what it makes
from_end : (name : Named) (words : List (List ℕ)) (constant : Bool) (ty : Ty) (init : Option Init) (ts : List Lexeme) (g : GlobalItem) → TailEnd name words constant ty init ts g → (align : ℕ) × Tail ts align × (g ≡ global_item name words constant ty (holding init align))
from_end name words constant ty init ts g (sec, f, r, S, (shared, f', r', D, (align, a, z, A, (end, v), e''), e'), e) =
    (align, (sec, f, r, S, (shared, f', r', D, subst (λ l. next_alignment l align) (sym (e'' ∙ ap (λ (l : List Lexeme). a ++ l) end ∙ append-nil a)) A, e'), e), v)

to_end : (name : Named) (words : List (List ℕ)) (constant : Bool) (ty : Ty) (init : Option Init) (ts : List Lexeme) (align : ℕ) → Tail ts align → TailEnd name words constant ty init ts (global_item name words constant ty (holding init align))
to_end name words constant ty init ts align (sec, f, r, S, (shared, f', r', A, al, e'), e) = (sec, f, r, S, (shared, f', r', A, (align, r', [], al, (refl, refl), sym (append-nil r')), e'), e)

-- an initializer is a name, or another one
name_or_other : (ty : Ty) (ts : List Lexeme) (init : Init) → init_in nesting_limit ty ts init → ((x : Named) × (t : Lexeme) × (with_line IsGlobal t x) × (ts ≡ t ∷ []) × (init ≡ Addr x.0)) ⊎ any (OtherForm ty) ts init
name_or_other ty ts init s = by_form (subst (λ n. init_in n ty ts init) limit_is s)
  where
    other_or : (t : Lexeme) → IsPlainInit ty t init → ts ≡ t ∷ [] → ((x : Named) × (t : Lexeme) × (with_line IsGlobal t x) × (ts ≡ t ∷ []) × (init ≡ Addr x.0)) ⊎ any (OtherForm ty) ts init
    other_or t (inr (inr (inr (inl (x, h, v))))) e = inl ((x, t.line), t, (h, refl), e, v)
    other_or t (inl h) e = inr (PlainInit, (t, (inl h, λ k. let f : ⊥ = (let a = h.0.0 in cc) in f), e))
    other_or t (inr (inl h)) e = inr (PlainInit, (t, (inr (inl h), λ k. let f : ⊥ = (let a = h.0.0 in cc) in f), e))
    other_or t (inr (inr (inl (n, inl h, v)))) e = inr (PlainInit, (t, (inr (inr (inl (n, inl h, v))), λ k. let f : ⊥ = (let a = h.0 in cc) in f), e))
    other_or t (inr (inr (inl (n, inr h, v)))) e = inr (PlainInit, (t, (inr (inr (inl (n, inr h, v))), λ k. let f : ⊥ = (let a = h.0 in cc) in f), e))
    other_or t (inr (inr (inr (inr h)))) e = inr (PlainInit, (t, (inr (inr (inr (inr h))), λ k. let f : ⊥ = (let a = h.0 in cc) in f), e))

    by_form : init_in (suc inner_limit) ty ts init → ((x : Named) × (t : Lexeme) × (with_line IsGlobal t x) × (ts ≡ t ∷ []) × (init ≡ Addr x.0)) ⊎ any (OtherForm ty) ts init
    by_form (PlainInit, s) = other_or s.0 s.1 s.2
    by_form (SquareInit, s) = inr (SquareInit, s)
    by_form (BracesInit, s) = inr (BracesInit, s)

by_name : (x : Named) (b : Bool) (ts : List Lexeme) (c : Contents) → Address x ts c → ByName x b ts c
by_name x true ts c s = s
by_name x false ts c s = inr s

address_of : (x : Named) (ts : List Lexeme) (align : ℕ) → Tail ts align → Address x ts (holding (Some (Addr x.0)) align)
address_of x ts align s = (align, ts, [], s, (refl, refl), sym (append-nil ts))

-- what a global of the grammar holds: an initializer, or none
abbrev pub HoldsInit : Named → List (List ℕ) → Bool → Ty → List Lexeme → GlobalItem → Type 0
HoldsInit name words constant ty ts g = (c : Contents) × (c.next ≡ None) × WithInit ty ts c × (g ≡ global_item name words constant ty c)

abbrev pub HoldsNone : Named → List (List ℕ) → Bool → Ty → List Lexeme → GlobalItem → Type 0
HoldsNone name words constant ty ts g = (align : ℕ) × Tail ts align × (g ≡ global_item name words constant ty (holding None align))

pub split_end : (name : Named) (words : List (List ℕ)) (constant : Bool) (ty : Ty) (ts : List Lexeme) (g : GlobalItem) → EndOf name words constant ty ts g → HoldsInit name words constant ty ts g ⊎ HoldsNone name words constant ty ts g
split_end name words constant ty ts g (init, f, r, inl h, s, e) =
    let t = from_end name words constant ty init r g s in
    inr (t.0, subst (λ l. Tail l t.0) (sym (e ∙ ap (λ (l : List Lexeme). l ++ r) h.0)) t.1, t.2 ∙ ap (λ (o : Option Init). global_item name words constant ty (holding o t.0)) h.1)
split_end name words constant ty ts g (init, f, r, inr (i, a, z, S, (end, v), k), s, e) =
    let t = from_end name words constant ty init r g s in
    let front : f ≡ a = k ∙ ap (λ (l : List Lexeme). a ++ l) end ∙ append-nil a in
    by_init t (name_or_other ty a i S) (e ∙ ap (λ (l : List Lexeme). l ++ r) front)
  where
    by_init : ((align : ℕ) × Tail r align × (g ≡ global_item name words constant ty (holding init align))) → ((x : Named) × (t : Lexeme) × (with_line IsGlobal t x) × (a ≡ t ∷ []) × (i ≡ Addr x.0)) ⊎ any (OtherForm ty) a i → ts ≡ a ++ r → HoldsInit name words constant ty ts g ⊎ HoldsNone name words constant ty ts g
    by_init t (inl (x, u, h, w, j)) q =
        inl (
          holding (Some (Addr x.0)) t.0,
          refl,
          (NameFirst, (x, u ∷ [], r, (u, h, refl), by_name x (begins_with_llvm x.0) r (holding (Some (Addr x.0)) t.0) (address_of x r t.0 t.1), q ∙ ap (λ (l : List Lexeme). l ++ r) w)),
          t.2 ∙ ap (λ (o : Option Init). global_item name words constant ty (holding o t.0)) (v ∙ ap Some j),
        )
    by_init t (inr o) q =
        inl (
          holding (Some i) t.0,
          refl,
          (OtherFirst, (i, a, r, o, (t.0, r, [], t.1, (refl, refl), sym (append-nil r)), q)),
          t.2 ∙ ap (λ (o : Option Init). global_item name words constant ty (holding o t.0)) v,
        )

-- ---- from the reading to the grammar

other_init : (ty : Ty) (ts : List Lexeme) (init : Init) → any (OtherForm ty) ts init → init_in nesting_limit ty ts init
other_init ty ts init s = subst (λ n. init_in n ty ts init) (sym limit_is) (by_form s)
  where
    by_form : any (OtherForm ty) ts init → init_in (suc inner_limit) ty ts init
    by_form (PlainInit, (t, h, e)) = (PlainInit, (t, h.0, e))
    by_form (SquareInit, s) = (SquareInit, s)
    by_form (BracesInit, s) = (BracesInit, s)

with_init_end : (name : Named) (words : List (List ℕ)) (constant : Bool) (ty : Ty) (f r ts : List Lexeme) (init : Init) (align : ℕ) → init_in nesting_limit ty f init → Tail r align → ts ≡ f ++ r → EndOf name words constant ty ts (global_item name words constant ty (holding (Some init) align))
with_init_end name words constant ty f r ts init align s t e = (Some init, f, r, inr (init, f, [], s, (refl, refl), sym (append-nil f)), to_end name words constant ty (Some init) r align t, e)

no_init_end : (name : Named) (words : List (List ℕ)) (constant : Bool) (ty : Ty) (ts : List Lexeme) (align : ℕ) → Tail ts align → EndOf name words constant ty ts (global_item name words constant ty (holding None align))
no_init_end name words constant ty ts align t = (None, [], ts, inl (refl, refl), to_end name words constant ty None ts align t, refl)

no_tail : Tail [] 0
no_tail = (tt, [], [], inl (refl, refl), (tt, [], [], inl (refl, refl), inl (refl, refl), refl), refl)

-- a name and the = behind it
abbrev pub IsBegun : Named → List Lexeme → Type 0
IsBegun b ts = (t u : Lexeme) × (line : ℕ) × (with_line IsItemName t b) × IsMark 61 u line × (ts ≡ t ∷ u ∷ [])

-- a global to its end, or one without contents and what is begun of the next
abbrev pub EndsOr : Named → List (List ℕ) → Bool → Ty → List Lexeme → Contents → Type 0
EndsOr name words constant ty ts c =
    ((c.next ≡ None) × EndOf name words constant ty ts (global_item name words constant ty c))
    ⊎ ((b : Named) × (c.next ≡ Some b) × IsBegun b ts × EndOf name words constant ty [] (global_item name words constant ty c))

address_ends : (name : Named) (words : List (List ℕ)) (constant : Bool) (ty : Ty) (ts f r : List Lexeme) (c : Contents) (x : Named) (t : Lexeme) → with_line IsGlobal t x → f ≡ t ∷ [] → Address x r c → ts ≡ f ++ r → EndsOr name words constant ty ts c
address_ends name words constant ty ts f r c x t h k (align, a, z, s, (end, v), e') e =
    let tail : r ≡ a = e' ∙ ap (λ (l : List Lexeme). a ++ l) end ∙ append-nil a in
    let init : init_in nesting_limit ty f (Addr x.0) = subst (λ n. init_in n ty f (Addr x.0)) (sym limit_is) (PlainInit, (t, inr (inr (inr (inl (x.0, h.0, refl)))), k)) in
    inl (ap (λ (d : Contents). d.next) v, subst (λ d. EndOf name words constant ty ts (global_item name words constant ty d)) (sym v) (with_init_end name words constant ty f r ts (Addr x.0) align init (subst (λ l. Tail l align) (sym tail) s) e))

pub holds_ends : (name : Named) (words : List (List ℕ)) (constant : Bool) (ty : Ty) (ts : List Lexeme) (c : Contents) → HoldsOf ty ts c → EndsOr name words constant ty ts c
holds_ends name words constant ty ts c (inl (NameFirst, (x, f, r, (t, h, k), s, e))) = by_llvm (begins_with_llvm x.0) refl s
  where
    by_llvm : (b : Bool) → begins_with_llvm x.0 ≡ b → ByName x b r c → EndsOr name words constant ty ts c
    by_llvm true q s = address_ends name words constant ty ts f r c x t h k s e
    by_llvm false q (inr s) = address_ends name words constant ty ts f r c x t h k s e
    by_llvm false q (inl (line, f', r', (u, m, k'), (end, v), e')) =
        inr (
          x,
          ap (λ (d : Contents). d.next) v,
          (t, u, line, ((h.0, q), h.1), m, e ∙ ap (λ (l : List Lexeme). l ++ r) k ∙ ap (λ (l : List Lexeme). t ∷ l) (e' ∙ ap (λ (l : List Lexeme). l ++ r') k' ∙ ap (λ (l : List Lexeme). u ∷ l) end)),
          subst (λ d. EndOf name words constant ty [] (global_item name words constant ty d)) (sym v) (no_init_end name words constant ty [] 0 no_tail),
        )
holds_ends name words constant ty ts c (inl (OtherFirst, (init, f, r, s, (align, a, z, w, (end, v), e'), e))) =
    let tail : r ≡ a = e' ∙ ap (λ (l : List Lexeme). a ++ l) end ∙ append-nil a in
    inl (ap (λ (d : Contents). d.next) v, subst (λ d. EndOf name words constant ty ts (global_item name words constant ty d)) (sym v) (with_init_end name words constant ty f r ts init align (other_init ty f init s) (subst (λ l. Tail l align) (sym tail) w) e))
holds_ends name words constant ty ts c (inr (align, a, z, w, (end, v), e)) =
    let tail : ts ≡ a = e ∙ ap (λ (l : List Lexeme). a ++ l) end ∙ append-nil a in
    inl (ap (λ (d : Contents). d.next) v, subst (λ d. EndOf name words constant ty ts (global_item name words constant ty d)) (sym v) (no_init_end name words constant ty ts align (subst (λ l. Tail l align) (sym tail) w)))
