-- From one place to the next.
use Rattle.std.proofs.Common.{◌≡◌, ℕ, ◌+◌, ◌-◌, ◌≤◌, List, [], length, take, drop, get_or, Bool, true, false, cond, refl, sym, ◌∙◌, ap, subst, arith, ◌==◌}
use Rattle.std.proofs.lemmas.List.{take_rest}
use Rattle.ir_core.specs.Bytes as bytes
use Rattle.ir_core.specs.Bytes.{no_line_end}
use Rattle.ir_core.specs.Tokens.{line_at}
use Rattle.ir_core.specs.Scan.{run, class_at, is_gap, Reads}
use Rattle.ir_core.proofs.Lexing.{run_inside, comment_reads, comment_line, reads_none, reads_then, behind_blank, blank_reads, blank_line, class_inside}
use Rattle.ir_lex.specs.declared.gaps.Place.{Place}
use Rattle.ir_lex.specs.Scanned.{spot_seen, IsPlace, IsGap}

-- n bytes on
abbrev pub onward_by : Place → ℕ → Place
onward_by place n = record { at = place.at + n; line = place.line; depth = place.depth; first = place.first }

pub comment_gap : (text : List ℕ) (start : Place) (n : ℕ) → IsPlace text start → class_at (drop start.at text) ≡ bytes.Semicolon → n ≡ run no_line_end (take (length text - start.at) (drop start.at text)) → IsGap text start (onward_by start n)
comment_gap text start n p e h =
    let k : n ≡ run no_line_end (drop start.at text) = h ∙ ap (run no_line_end) (take_rest text start.at) in
    let s = p.shallow in
    record {
      is_place = record {
        inside = subst (λ m. start.at + m ≤ length text) (sym k) (run_inside no_line_end text start.at p.inside);
        line_is = p.line_is ∙ sym (ap (λ m. line_at text (start.at + m)) k ∙ comment_line text start.at);
        shallow = omega arith;
      };
      onward = omega arith;
      reads = subst (λ m. Reads text (spot_seen start) start.at (spot_seen start) (start.at + m) []) (sym k) (comment_reads text (spot_seen start) start.at e);
    }

pub gap_none : (text : List ℕ) (start : Place) → IsPlace text start → IsGap text start start
gap_none text start p = record { is_place = p; onward = omega arith; reads = reads_none text (spot_seen start) start.at }

pub gap_then : (text : List ℕ) (a b c : Place) → IsGap text a b → IsGap text b c → IsGap text a c
gap_then text a b c g h = record {
  is_place = h.is_place;
  onward = let l = g.onward in let m = h.onward in omega arith;
  reads = reads_then text (spot_seen a) (spot_seen b) (spot_seen c) a.at b.at c.at [] [] g.reads h.reads;
}

-- one blank on
pub blank_gap : (text : List ℕ) (start : Place) (line : ℕ) (first : Bool) → IsPlace text start → class_at (drop start.at text) ≡ bytes.Blank → line ≡ cond (get_or text start.at 0 == 10) (start.line + 1) start.line → first ≡ cond (get_or text start.at 0 == 10) true start.first → IsGap text start (record { at = start.at + 1; line = line; depth = start.depth; first = first })
blank_gap text start line first p e h f =
    let l = class_inside text start.at bytes.Blank e (λ f. cc) in
    let s = p.shallow in
    let b : behind_blank (spot_seen start) (get_or text start.at 0) ≡ record { depth = start.depth; first = first } = ap (λ t. record { depth = start.depth; first = t }) (sym f) in
    record {
      is_place = record {
        inside = omega arith;
        line_is = h ∙ ap (λ m. cond (get_or text start.at 0 == 10) (m + 1) m) p.line_is ∙ sym (blank_line text start.at (get_or text start.at 0) l refl);
        shallow = omega arith;
      };
      onward = omega arith;
      reads = subst (λ t. Reads text (spot_seen start) start.at t (start.at + 1) []) b (blank_reads text (spot_seen start) start.at e);
    }

pub no_gap : (a : bytes.Class) → (a ≡ bytes.Blank → ⊥) → (a ≡ bytes.Semicolon → ⊥) → is_gap a ≡ false
no_gap bytes.Blank b s = absurd (b refl)
no_gap bytes.Semicolon b s = absurd (s refl)
no_gap _ b s = refl
