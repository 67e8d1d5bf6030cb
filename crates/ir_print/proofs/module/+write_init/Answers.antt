use Rattle.std.proofs.Common.{◌≡◌, ◌++◌, ℕ, List, arith, sym, subst, OnOk}
use Rattle.std.proofs.lemmas.Grind.{common_steps}
use Rattle.text_laws.proofs.InitTexts.{is_zero_text, is_bytes_text, is_square_text, is_braces_text}
use Rattle.ir_print.proofs.module.+write_init.Goals as goal

pub write_init-returns-in-Zero : goal.write_init-returns-in-Zero
write_init-returns-in-Zero t c =
    let e = is_zero_text c.args.ty.now c.args.init.now c.in-Zero.is in
    subst (λ (x : List ℕ). OnOk c.text.result (c.text.new.self ≡ c.args.out.now ++ x)) (sym e) c.text.ensures

pub write_init-returns-in_ok-text-in-Bytes : goal.write_init-returns-in_ok-text-in-Bytes
write_init-returns-in_ok-text-in-Bytes t c =
    let e = is_bytes_text c.args.ty.now c.args.init.now c.in-Bytes.bytes c.in-Bytes.is in
    grind (arith, common_steps, e)

pub write_init-returns-in_ok-write_elements-in-Square : goal.write_init-returns-in_ok-write_elements-in-Square
write_init-returns-in_ok-write_elements-in-Square t c =
    let e = is_square_text c.args.ty.now c.args.init.now c.in-Square.elements c.in-Square.is in
    grind (arith, common_steps, e)

pub write_init-returns-in_ok-write_elements-in-Braces : goal.write_init-returns-in_ok-write_elements-in-Braces
write_init-returns-in_ok-write_elements-in-Braces t c =
    let e = is_braces_text c.args.ty.now c.args.init.now c.in-Braces.elements c.in-Braces.is in
    grind (arith, common_steps, e)
