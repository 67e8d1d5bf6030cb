-- Launches that are read line by line.
use Rattle.std.proofs.Common.{◌≡◌, ℕ, ◌-◌, ◌^◌, ◌<◌, List, [], ◌∷◌, ◌++◌, Option, Some, None, option_map, Result, Ok, Err, Bool, true, false, nat_lt, refl, sym, ap, ◌∙◌, arith}
use Rattle.std.proofs.lemmas.List.{append_assoc, append-nil}
use Rattle.std.proofs.lemmas.Bool.{ltb-true, ltb-false, lt-leb, le-leb}
use Rattle.ir_core.specs.declared.module.Param.{Param}
use Rattle.mem_model.specs.declared.launch.Arg.{Arg}
use Rattle.mem_model.specs.Launching.{buffer_size}
use Rattle.run_text.specs.declared.launch.LaunchFaultKind.{LaunchFaultKind}
use Rattle.run_text.specs.declared.launch.LaunchFaultKind.TheVariants.{LineForm, ArgumentCount}
use Rattle.run_text.specs.declared.launch.LaunchFault.{LaunchFault}
use Rattle.run_text.specs.Capped.{capped}
use Rattle.run_text.specs.Lines.{Line}
use Rattle.run_text.specs.LaunchText.{in_range, fault_at, next_line, or_fault, and_more, arguments, formed_arg, arg_form, surplus}
use Rattle.run_text.proofs.CappedNumbers.{below, above}
use Rattle.run_text.proofs.Pairs.{put_before}

-- ---- numbers of any length in a range

out_of_range : (limit n : ℕ) (fault : LaunchFaultKind) → limit < n → in_range limit fault (Some n) ≡ Err fault
out_of_range limit n fault h = rw (le-leb 1 n (omega arith), lt-leb n limit h)

count_by : (limit n : ℕ) (fault : LaunchFaultKind) → limit < 2 ^ 32 → (b : Bool) → nat_lt n (2 ^ 64) ≡ b → in_range limit fault (Some (capped n)) ≡ in_range limit fault (Some n)
count_by limit n fault h true e = ap (λ k. in_range limit fault (Some k)) (below n (ltb-true n (2 ^ 64) e))
count_by limit n fault h false e =
    let l = ltb-false n (2 ^ 64) e in
    ap (λ k. in_range limit fault (Some k)) (above n l) ∙ out_of_range limit (2 ^ 64) fault (omega arith) ∙ sym (out_of_range limit n fault (omega arith))

pub count_read : (limit : ℕ) (fault : LaunchFaultKind) → limit < 2 ^ 32 → (a : Option ℕ) → in_range limit fault (option_map capped a) ≡ in_range limit fault a
count_read limit fault h None = refl
count_read limit fault h (Some n) = count_by limit n fault h (nat_lt n (2 ^ 64)) refl

-- ---- one line

module _ {A B : Type 0} (end : ℕ) (read : List ℕ → Result A LaunchFaultKind) (go : A → List Line → Result B LaunchFault) where
  pub line_missing : (ls : List Line) → ls ≡ [] → next_line end read ls go ≡ Err (fault_at end LineForm)
  line_missing ls e = ap (λ l. next_line end read l go) e

  pub line_read : (ls rest : List Line) (l : Line) (x : A) → ls ≡ l ∷ rest → read l.bytes ≡ Ok x → next_line end read ls go ≡ go x rest
  line_read ls rest l x e f = ap (λ k. next_line end read k go) e ∙ ap (λ r. or_fault l.number r (λ y. go y rest)) f

  pub line_refused : (ls rest : List Line) (l : Line) (fault : LaunchFaultKind) → ls ≡ l ∷ rest → read l.bytes ≡ Err fault → next_line end read ls go ≡ Err (fault_at l.number fault)
  line_refused ls rest l fault e f = ap (λ k. next_line end read k go) e ∙ ap (λ r. or_fault l.number r (λ y. go y rest)) f

-- ---- argument after argument

put_more : (xs : List Arg) (x : Arg) (r : Result (List Arg) LaunchFault) → put_before xs (and_more x r) ≡ put_before (xs ++ x ∷ []) r
put_more xs x (Err fault) = refl
put_more xs x (Ok ys) = ap Ok (sym (append_assoc xs (x ∷ []) ys))

module _ (all : Result (List Arg) LaunchFault) (end left : ℕ) (xs : List Arg) (ls : List Line) where
  pub args_done : (ps : List Param) → ps ≡ [] → ls ≡ [] → all ≡ put_before xs (arguments end left ps ls) → all ≡ Ok xs
  args_done ps e f so_far = so_far ∙ ap (λ p. put_before xs (arguments end left p ls)) e ∙ ap (λ l. put_before xs (arguments end left [] l)) f ∙ ap Ok (append-nil xs)

  pub arg_surplus : (ps : List Param) (l : Line) (rest : List Line) → ps ≡ [] → ls ≡ l ∷ rest → all ≡ put_before xs (arguments end left ps ls) → all ≡ Err (fault_at l.number (surplus (arg_form l.bytes)))
  arg_surplus ps l rest e f so_far = so_far ∙ ap (λ p. put_before xs (arguments end left p ls)) e ∙ ap (λ k. put_before xs (arguments end left [] k)) f

  module _ (ps more : List Param) (p : Param) (first : ps ≡ p ∷ more) (so_far : all ≡ put_before xs (arguments end left ps ls)) where
    pub arg_missing : ls ≡ [] → all ≡ Err (fault_at end ArgumentCount)
    arg_missing f = so_far ∙ ap (λ q. put_before xs (arguments end left q ls)) first ∙ ap (λ k. put_before xs (arguments end left (p ∷ more) k)) f

    at_line : (l : Line) (rest : List Line) (r : Result Arg LaunchFaultKind) → ls ≡ l ∷ rest → formed_arg left p.ty (arg_form l.bytes) ≡ r → all ≡ put_before xs (or_fault l.number r (λ arg. and_more arg (arguments end (left - buffer_size arg) more rest)))
    at_line l rest r f e =
        so_far
        ∙ ap (λ q. put_before xs (arguments end left q ls)) first
        ∙ ap (λ k. put_before xs (arguments end left (p ∷ more) k)) f
        ∙ ap (λ s. put_before xs (or_fault l.number s (λ arg. and_more arg (arguments end (left - buffer_size arg) more rest)))) e

    pub arg_refused : (l : Line) (rest : List Line) (fault : LaunchFaultKind) → ls ≡ l ∷ rest → formed_arg left p.ty (arg_form l.bytes) ≡ Err fault → all ≡ Err (fault_at l.number fault)
    arg_refused l rest fault f e = at_line l rest (Err fault) f e

    pub arg_read : (l : Line) (rest : List Line) (arg : Arg) → ls ≡ l ∷ rest → formed_arg left p.ty (arg_form l.bytes) ≡ Ok arg → all ≡ put_before (xs ++ arg ∷ []) (arguments end (left - buffer_size arg) more rest)
    arg_read l rest arg f e = at_line l rest (Ok arg) f e ∙ put_more xs arg (arguments end (left - buffer_size arg) more rest)
