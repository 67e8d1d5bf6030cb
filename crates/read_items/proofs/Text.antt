-- Tokens to the end are read as the module that they spell; where they spell none, reading stops at the first that is refused.
use Rattle.std.proofs.Common.{◌≡◌, ℕ, List, [], ◌∷◌, ◌++◌, codes, Option, Some, None, false, Ok, Err, refl, sym, ap, ◌∙◌, subst, inl, inr}
use Rattle.std.proofs.lemmas.List.{append-nil}
use Rattle.ir_core.specs.declared.answers.Or.{Or}
use Rattle.ir_core.specs.declared.answers.Or.TheVariants.{Refused, Memory}
use Rattle.ir_core.specs.declared.module.Module.{Module}
use Rattle.ir_core.specs.Tokens.{Lexeme, Word}
use Rattle.ir_core.specs.Spell.{IsFirstRefused, many}
use Rattle.ir_core.specs.Language.{Item, VariableItem, item, module_of, module_to_end}
use Rattle.read_forms.specs.Read.{Fails}
use Rattle.read_forms.proofs.Readers.{Reads, Taken, Halted}
use Rattle.read_forms.proofs.Whole.{whole_found, whole_refused, whole_only}
use Rattle.read_forms.proofs.Laws.{type_reads, made_reads}
use Rattle.read_items.specs.Linked.{Linked}
use Rattle.read_items.specs.Globals.{Named, holding, global_item}
use Rattle.read_items.specs.Items.{item_goes, item_at, items_at, items_module_at, module_at}
use Rattle.read_items.specs.Refused.{IsTokenRefusal}
use Rattle.read_items.proofs.Linked.{linked_takes, linked_halts}
use Rattle.read_items.proofs.ItemLaws.{BegunOf, StepOf}
use Rattle.read_items.proofs.Spelled.{linked_spelled, step_takes, step_halts, step_shrinks}
use Rattle.read_items.proofs.Only.{items_only}

-- ---- some text goes on with any global that is begun

keyword : Lexeme
keyword = record { kind = Word; bytes = codes "global"; line = 0 }

some_global : (name : Named) → BegunOf name (keyword ∷ type_reads.some) (VariableItem (global_item name [] false type_reads.value (holding None 0)), None)
unfolding keyword
some_global name =
    let r = type_reads in (
      (global_item name [] false r.value (holding None 0), None),
      keyword ∷ r.some,
      [],
      (
        [],
        [],
        keyword ∷ r.some,
        ([], [], [], refl, (refl, refl), refl),
        (
          false,
          keyword ∷ [],
          r.some,
          (keyword, (refl, inl (refl, refl)), refl),
          (r.value, r.some, [], r.spelled, (holding None 0, [], [], inr (0, [], [], (tt, [], [], inl (refl, refl), (tt, [], [], inl (refl, refl), inl (refl, refl), refl), refl), (refl, refl), refl), (refl, refl), refl), sym (append-nil r.some)),
          refl,
        ),
        refl,
      ),
      (refl, refl),
      sym (append-nil (keyword ∷ r.some)),
    )

ends : (a : Option Named) → (ts : List Lexeme) × (xs : List Item) × Linked StepOf a ts xs
ends None = ([], [], (refl, refl))
ends (Some name) = (keyword ∷ type_reads.some, VariableItem (global_item name [] false type_reads.value (holding None 0)) ∷ [], (None, keyword ∷ type_reads.some, [], some_global name, (refl, refl), sym (append-nil (keyword ∷ type_reads.some))))

-- ---- items, and the module that they make

AtEnd : List Lexeme → Type 0
AtEnd rest = rest ≡ []

items_taken : (ts : List Lexeme) (xs : List Item) (rest : List Lexeme) → items_at ts ≡ Ok (xs, rest) → Taken items_at (many item) ts xs rest
items_taken ts xs rest e =
    let t = linked_takes item_goes item_at step_shrinks StepOf step_takes step_halts ends None ts xs rest e in
    record { front = t.front; is = t.is; spelled = linked_spelled None t.front xs t.spelled; same = t.same }

items_halted : (ts : List Lexeme) (n : ℕ) → items_at ts ≡ Err n → Halted items_at (many item) ts n
items_halted ts n e =
    let h = linked_halts item_goes item_at step_shrinks StepOf step_takes step_halts ends None ts n e in
    record { front = h.front; rest = h.rest; is = h.is; left = h.left; more = h.more; value = h.value; goes_on = linked_spelled None (h.front ++ h.more) h.value h.goes_on; same = h.same }

items_reads : Reads items_at (many item) AtEnd
unfolding AtEnd
items_reads = record {
  takes = items_taken;
  halts = items_halted;
  only = λ front rest xs s e. subst (λ r. items_at (front ++ r) ≡ Ok (xs, r)) (sym e) (ap items_at (append-nil front) ∙ items_only front xs s);
  some = [];
  value = [];
  spelled = refl;
}

module_reads : Reads items_module_at module_to_end AtEnd
unfolding items_module_at
module_reads = made_reads module_of items_reads

-- ---- the whole

pub module_found : (ts : List Lexeme) (m : Module) (rest : List Lexeme) → module_at ts ≡ Ok (m, rest) → module_to_end ts m
unfolding AtEnd
module_found ts m rest e = whole_found items_module_at module_to_end AtEnd module_reads refl ts m rest e

pub module_refused : (ts : List Lexeme) (n : ℕ) → module_at ts ≡ Err n → IsFirstRefused module_to_end ts n
unfolding AtEnd
module_refused ts n e = whole_refused items_module_at module_to_end AtEnd module_reads refl ts n e

pub module_only : (ts : List Lexeme) (m : Module) → module_to_end ts m → module_at ts ≡ Ok (m, [])
unfolding AtEnd
module_only ts m s = whole_only items_module_at module_to_end AtEnd module_reads refl ts m s

pub tokens_refused : (ts : List Lexeme) (e : Or ℕ) → Fails e (module_at ts) → IsTokenRefusal ts e
tokens_refused ts (Refused left) h = module_refused ts left h
tokens_refused ts Memory h = tt
