-- Replies, and what is written of them.
use Rattle.std.proofs.Common.{◌≡◌, ◌⊎◌, ℕ, suc, ◌<◌, ◌≤◌, List, [], ◌∷◌, ◌++◌, Bool, true, false, slice_index_or, Fits, w8, if◌then◌else◌, Option, Some, None, Result, Ok, Err, IfOk, IfErr, refl, sym, ap, ◌∙◌, subst, arith, inl, inr, codes}
use Rattle.std.proofs.lemmas.Bool.{lt-ltb}
use Rattle.std.proofs.lemmas.List.{append-nil}
use Rattle.ir_core.specs.declared.module.Module.{Module}
use Rattle.ir_core.specs.declared.answers.Or.{Or}
use Rattle.ir_core.specs.declared.answers.Or.TheVariants.{Refused, Memory}
use Rattle.ir_core.specs.declared.answers.OutOfMemory.{OutOfMemory}
use Rattle.ir_core.specs.declared.refusal.Refusal.{Refusal}
use Rattle.ir_core.specs.Bytes.{every}
use Rattle.ir_core.specs.Formed.{is_byte}
use Rattle.ir_core.specs.Language.{Reads}
use Rattle.ir_core.specs.NameRefusals.{least}
use Rattle.ir_core.specs.Text.{Text}
use Rattle.ir_core.specs.MachineOff.{machine_off, Remarks}
use Rattle.ir_core.specs.Notes.{refusal_text, remarks_text}
use Rattle.refine_laws.proofs.Refining.{machine_off_refines}
use Rattle.ir_read.specs.Refused.{IsReadRefusal}
use Rattle.ir_read.proofs.Texts.{one_text, text_refused}
use Rattle.shapes.specs.Refusals.{unbuilt}
use Rattle.checked_modules.specs.Checked.{HasNoRefusal}
use Rattle.ir_check.specs.Refusal.{IsRefused, IsCheckRefusal}
use Rattle.opt_core.specs.declared.reply.Reply.{Reply}
use Rattle.io_edge.specs.Outside.{Grows, GrowsByFront}
use Rattle.opt_core.specs.Answer.{Accepts, IsUnbuilt, IsNotAccepted, IsTextReply, IsNote, IsFailure, HasRisen, IsWritten}

pub not_read : (text : List ℕ) (e : Or Refusal) → IsReadRefusal text e → IsNotAccepted text e
not_read text (Refused r) h = (inl h, λ m accepts. text_refused text r h m accepts.0)
not_read text Memory h = tt

-- a module of which nothing is refused isn't refused
taken : (m : Module) (r : Refusal) → IsRefused m r → HasNoRefusal m → ⊥
taken m r (inl named) h = let none = ap least h.names in let f : ⊥ = cc in f
taken m r (inr (none, shape)) h = h.shapes r shape.0

pub not_checked : (text : List ℕ) (m : Module) (e : Or Refusal) → Reads text m → IsCheckRefusal m e → IsNotAccepted text e
not_checked text m (Refused r) reads h = (inr (inl (m, reads, h)), λ n accepts. taken m r h (subst HasNoRefusal (one_text text n m accepts.0 reads) accepts.1))
not_checked text m Memory reads h = tt

not_built : (text : List ℕ) (m : Module) (e : Or Refusal) → Reads text m → HasNoRefusal m → IsUnbuilt m e → IsNotAccepted text e
not_built text m (Refused r) reads h call = (inr (inr (m, reads, h, call)), λ n accepts. let same = ap unbuilt (one_text text n m accepts.0 reads) in let none = accepts.2 in let f : ⊥ = cc in f)
not_built text m Memory reads h call = absurd call

-- the items of a slice of bytes are bytes
pub are_bytes : (text : List ℕ) → ((at : ℕ) → Fits w8 (slice_index_or text at 0)) → every is_byte text ≡ true
are_bytes [] fits = refl
are_bytes (c ∷ cs) fits = by (is_byte c) (lt-ltb c 256 (let f = fits 0 in omega (arith, f))) (are_bytes cs (λ at. fits (suc at)))
  where
    by : (b : Bool) → b ≡ true → every is_byte cs ≡ true → (if b then every is_byte cs else false) ≡ true
    by b e rest = ap (λ x. if x then every is_byte cs else false) e ∙ rest

-- the module c that was checked is the module m that was read
module _ (text : List ℕ) (m c : Module) (reads : Reads text m) (checked : (c ≡ m) × HasNoRefusal m) where
  pub is_taken : (result : Result Module (Or Refusal)) → IfOk result (λ d. (d ≡ c) × (unbuilt c ≡ None)) → IfOk result (λ d. Accepts text d)
  is_taken (Ok d) h = subst (Accepts text) (sym (h.0 ∙ checked.0)) (reads, checked.1, ap unbuilt (sym checked.0) ∙ h.1)
  is_taken (Err e) h = tt

  pub not_taken : (result : Result Module (Or Refusal)) → IfErr result (λ e. IsUnbuilt c e) → IfErr result (λ e. IsNotAccepted text e)
  not_taken (Ok d) h = tt
  not_taken (Err e) h = not_built text m e reads checked.1 (subst (λ n. IsUnbuilt n e) checked.0 h)

pub is_optimised : (text : List ℕ) (m : Module) (result : Result Reply OutOfMemory) → Accepts text m → IfOk result (λ r. (r.status ≡ 0) × (r.out ≡ Text (machine_off m)) × (r.notes ≡ remarks_text (Remarks m))) → IfOk result (λ r. IsTextReply text r.status r.out r.notes)
is_optimised text m (Ok r) accepts h = inl (m, accepts, λ form l fits. machine_off_refines m l form fits, h.0, h.1, h.2)
is_optimised text m (Err e) accepts h = tt

pub own_status : (m : Module) (result : Result Reply OutOfMemory) → IfOk result (λ r. (r.status ≡ 0) × (r.out ≡ Text (machine_off m)) × (r.notes ≡ remarks_text (Remarks m))) → IfOk result (λ r. r.status < 5)
own_status m (Ok r) h = let zero = h.0 in omega arith
own_status m (Err e) h = tt

pub is_refused : (text : List ℕ) (r : Refusal) (result : Result Reply OutOfMemory) → IsNotAccepted text (Refused r) → IfOk result (λ x. IsNote 3 (refusal_text r ++ codes "\n") x.status x.out x.notes) → IfOk result (λ x. IsTextReply text x.status x.out x.notes)
is_refused text r (Ok x) refused h = inr (r, refused.0, refused.1, h)
is_refused text r (Err e) refused h = tt

-- ---- what is written

grows_nothing : (taken : Option (List ℕ)) → Grows taken taken []
grows_nothing None = tt
grows_nothing (Some xs) = sym (append-nil xs)

-- nothing is written on the output, and a note on the notes or a front of it
pub note_written : {Rose : Type 0} (status result : ℕ) (n : List ℕ) (out notes notes' : Option (List ℕ)) →
    ((result ≡ status) × Grows notes notes' n) ⊎ ((result ≡ 6) × GrowsByFront notes notes' n × Rose) → IsWritten result status [] n out out notes notes'
note_written status result n out notes notes' (inl (same, whole)) = inl (same, grows_nothing out, whole)
note_written status result n out notes notes' (inr (six, front, rose)) = inr (inr (six, grows_nothing out, front))

pub is_failure : (path : Option (List ℕ)) (before after : List ℕ → ℕ) (n : List ℕ) → n ≡ codes "ompopt: input failed\n" → HasRisen path before after → IsFailure path 5 [] n
is_failure None before after n e h = absurd h
is_failure (Some path) before after n e h = (refl, refl, e)

-- a reply that is written has its own status, or a sink failed
pub not_five : {R X : Type 0} (status result : ℕ) → (status ≡ 5 → ⊥) → (result ≡ status) ⊎ ((result ≡ 6) × R) → result ≡ 5 → X
not_five status result own (inl same) five = absurd (own (sym same ∙ five))
not_five status result own (inr (six, rose)) five = absurd (omega arith)

pub six_rose : {R : Type 0} (status result : ℕ) → (status ≡ 6 → ⊥) → (result ≡ status) ⊎ ((result ≡ 6) × R) → result ≡ 6 → R
six_rose status result own (inl same) six = absurd (own (sym same ∙ six))
six_rose status result own (inr (now, rose)) six = rose

pub low_is_none : (n status : ℕ) → 5 ≤ n → status < 5 → status ≡ n → ⊥
low_is_none n status high low same = omega arith
