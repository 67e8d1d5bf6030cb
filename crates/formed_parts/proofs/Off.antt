-- A module that some text spells is one when its machine is switched off.
use Rattle.std.proofs.Common.{◌≡◌, List, [], ◌∷◌, Bool, true, false, not, refl, sym, ap, ◌∙◌, subst, inl, inr, ◌⊎◌, codes, if◌then◌else◌}
use Rattle.ir_core.specs.declared.instructions.Value.TheVariants.{Int as IntValue}
use Rattle.ir_core.specs.declared.instructions.Typed.{Typed}
use Rattle.ir_core.specs.declared.instructions.TailWord.{TailWord}
use Rattle.ir_core.specs.declared.instructions.Kind.{Kind}
use Rattle.ir_core.specs.declared.instructions.Kind.TheVariants.{Call}
use Rattle.ir_core.specs.declared.module.Module.{Module}
use Rattle.ir_core.specs.Tokens.{Lexeme, Word}
use Rattle.ir_core.specs.Spell.{done, ◌>>=◌}
use Rattle.ir_core.specs.Instructions
use Rattle.ir_core.specs.Instructions.{argument, called, CallForm, Bare, Led, call_form, call, value, value_form, ValueForm, assigned, stored, fenced, LastForm, Branches, Switches, Returns, Stops, last_form, Straight, Tested, is_dropped_kind, is_kept}
use Rattle.ir_core.specs.Formed.{Formed}
use Rattle.ir_core.specs.MachineOff.{calls_init, operands_off, kind_off, inst_off, machine_off}
use Rattle.text_laws.specs.Spelling.{IsSpelled}
use Rattle.text_laws.proofs.Good.{AllGood, good_then, good_done, good_any, good_either, good_list, done_spelled, one_spelled, then_spelled, any_spelled, left_spelled, right_spelled, list_spelled}
use Rattle.text_laws.proofs.Edited.{KeepsKinds, plain_edited, last_edited}
use Rattle.text_laws.proofs.Modules.{parts_of_formed}
use Rattle.formed_parts.specs.Edits.{KeepsInsts}
use Rattle.formed_parts.proofs.Edits.{edits_keep_parts}
use Rattle.formed_parts.proofs.Joined.{formed_of_parts}

-- ---- kinds that are no calls

-- all that the form spells has the property
record Holds {X : Type 0} (S : List Lexeme → X → Type 0) (P : X → Type 0) : Type 0 where
  all : (ts : List Lexeme) (x : X) → S ts x → P x

holds_done : {X : Type 0} {v : X} {P : X → Type 0} → P v → Holds (done v) P
holds_done {P = P} h = record { all = λ ts x s. subst P (sym s.1) h }

holds_then : {X Y : Type 0} {S : List Lexeme → X → Type 0} {T : X → List Lexeme → Y → Type 0} {P : Y → Type 0} → ((x : X) → Holds (T x) P) → Holds (S >>= T) P
holds_then t = record { all = λ ts y s. (t s.0).all s.2 y s.4 }

-- nothing is changed
abbrev Stays : Kind → Type 0
Stays k = kind_off k ≡ k

value_stays : (form : ValueForm) → Holds (value_form form) Stays
value_stays (Instructions.Wraps op) = holds_then (λ f. holds_then (λ t. holds_then (λ a. holds_then (λ b. holds_done refl))))
value_stays (Instructions.Divides op) = holds_then (λ f. holds_then (λ t. holds_then (λ a. holds_then (λ b. holds_done refl))))
value_stays (Instructions.Mixes op) = holds_then (λ f. holds_then (λ t. holds_then (λ a. holds_then (λ b. holds_done refl))))
value_stays Instructions.Compares = holds_then (λ p. holds_then (λ t. holds_then (λ a. holds_then (λ b. holds_done refl))))
value_stays (Instructions.Casts op) = holds_then (λ a. holds_then (λ w. holds_then (λ t. holds_done refl)))
value_stays Instructions.Selects = holds_then (λ c. holds_then (λ a. holds_then (λ b. holds_done refl)))
value_stays Instructions.Phis = holds_then (λ t. holds_then (λ e. holds_then (λ es. holds_done refl)))
value_stays Instructions.Allocas = holds_then (λ t. holds_then (λ a. holds_done refl))
value_stays Instructions.Loads = holds_then (λ f. holds_then (λ t. holds_then (λ a. holds_then (λ o. holds_then (λ n. holds_done refl)))))
value_stays Instructions.Changes = holds_then (λ op. holds_then (λ a. holds_then (λ v. holds_then (λ o. holds_then (λ n. holds_done refl)))))
value_stays Instructions.Steps = holds_then (λ f. holds_then (λ t. holds_then (λ b. holds_then (λ p. holds_then (λ ps. holds_done refl)))))

stored_stays : Holds stored Stays
stored_stays = holds_then (λ f. holds_then (λ v. holds_then (λ a. holds_then (λ o. holds_then (λ n. holds_done refl)))))

fenced_stays : Holds fenced Stays
fenced_stays = holds_then (λ o. holds_done refl)

last_stays : (form : LastForm) (ts : List Lexeme) (k : Kind) → last_form form ts k → Stays k
last_stays Branches ts k (Straight, s) = (holds_then {P = Stays} (λ to. holds_done refl)).all ts k s
last_stays Branches ts k (Tested, s) = (holds_then {P = Stays} (λ c. holds_then (λ a. holds_then (λ b. holds_done refl)))).all ts k s
last_stays Switches ts k s = (holds_then {P = Stays} (λ on. holds_then (λ other. holds_then (λ o. holds_then (λ cs. holds_then (λ c. holds_done refl)))))).all ts k s
last_stays Returns ts k (inl s) = (holds_then {P = Stays} (λ w. holds_done refl)).all ts k s
last_stays Returns ts k (inr s) = (holds_then {P = Stays} (λ v. holds_done refl)).all ts k s
last_stays Stops ts k s = (holds_done {P = Stays} refl).all ts k s

-- so it is spelled as before
unchanged : (S : List Lexeme → Kind → Type 0) (k : Kind) → Stays k → IsSpelled S k → IsSpelled S (kind_off k)
unchanged S k e g = subst (IsSpelled S) (sym e) g

-- ---- calls

-- the word false stands for 0 of every type
argument_off : (a : Typed) → IsSpelled argument a → IsSpelled argument (record a { value = IntValue 0 })
argument_off a g =
    let b = good_then g in
    let t = good_then b.rest in
    let c = good_then t.rest in
    let v = good_then c.rest in
    let word = one_spelled (record { token = record { kind = Word; bytes = codes "false"; line = 0 }; fine = record { bytes = refl; shape = tt }; is = inr (refl, inr (inl (refl, refl))) }) in
    subst (λ (x : Typed). IsSpelled argument (record x { value = IntValue 0 })) (sym (good_done v.rest)) (then_spelled b.front (then_spelled t.front (then_spelled c.front (then_spelled word (done_spelled _)))))

operands_spelled : (os : List Typed) → AllGood argument os → AllGood argument (operands_off os)
operands_spelled [] g = g
operands_spelled (a ∷ []) g = g
operands_spelled (a ∷ b ∷ []) g = g
operands_spelled (a ∷ b ∷ c ∷ []) g = (g.0, (g.1.0, (argument_off c g.1.1.0, tt)))
operands_spelled (a ∷ b ∷ c ∷ d ∷ os) g = g

called_off : (tail_word : TailWord) (k : Kind) → IsSpelled (called tail_word) k → IsSpelled (called tail_word) (kind_off k)
called_off tail_word k g =
    let a = good_then g in
    let b = good_then a.rest in
    let r = good_then b.rest in
    let c = good_then r.rest in
    let m = good_then c.rest in
    let o = good_then m.rest in
    let t = good_then o.rest in
    let all = good_list 41 argument o.value o.front in
    let new = if calls_init c.value then operands_off o.value else o.value in
    let spelled = list_spelled 41 argument refl new (either (calls_init c.value) (operands_off o.value) o.value (operands_spelled o.value all) all) in
    subst (λ x. IsSpelled (called tail_word) (kind_off x)) (sym (good_done t.rest)) (then_spelled a.front (then_spelled b.front (then_spelled r.front (then_spelled c.front (then_spelled m.front (then_spelled spelled (then_spelled t.front (done_spelled (Call tail_word r.value c.value new)))))))))
  where
    either : (b : Bool) (os ps : List Typed) → AllGood argument os → AllGood argument ps → AllGood argument (if b then os else ps)
    either true os ps h k = h
    either false os ps h k = k

call_off : (form : CallForm) (k : Kind) → IsSpelled (call_form form) k → IsSpelled (call_form form) (kind_off k)
call_off Bare k g = let a = good_then g in then_spelled a.front (called_off _ k a.rest)
call_off Led k g =
    let a = good_then g in
    let b = good_then a.rest in
    then_spelled a.front (then_spelled b.front (called_off a.value k b.rest))

assigned_off : (k : Kind) → IsSpelled assigned k → IsSpelled assigned (kind_off k)
assigned_off k g = by (good_either value call g)
  where
    by : IsSpelled value k ⊎ IsSpelled call k → IsSpelled assigned (kind_off k)
    by (inl h) = let a = good_then h in left_spelled call (unchanged value k ((value_stays a.value).all a.rest.tokens k a.rest.is) h)
    by (inr h) = let f = good_any h in right_spelled value (any_spelled f.0 (call_off f.0 k f.1))

-- ---- instructions

kinds_off : KeepsKinds kind_off
kinds_off = record {
  assigned = assigned_off;
  stored = λ k g. unchanged stored k (stored_stays.all g.tokens k g.is) g;
  fenced = λ k g. unchanged fenced k (fenced_stays.all g.tokens k g.is) g;
  called = called_off;
  last = λ form k g. unchanged (last_form form) k (last_stays form g.tokens k g.is) g;
}

still_kept : (k : Kind) → is_dropped_kind (kind_off k) ≡ is_dropped_kind k
still_kept (Call tail_word ret callee operands) = refl
still_kept _ = refl

insts_off : KeepsInsts inst_off
insts_off = record {
  plain = λ i p. record { kept = ap not (still_kept i.kind) ∙ p.kept; spelled = plain_edited kinds_off i.line i p.spelled };
  last = λ i g. last_edited kinds_off i.line i g;
}

pub off_is_formed : (m : Module) → Formed m → Formed (machine_off m)
off_is_formed m f = formed_of_parts (machine_off m) (edits_keep_parts inst_off insts_off m (parts_of_formed m f))
