-- Texts one behind the other, and their tokens.
use Rattle.std.proofs.Common.{◌≡◌, ℕ, ◌+◌, List, [], ◌∷◌, ◌++◌, true, false, refl, sym, subst, append_assoc, codes}
use Rattle.ir_core.specs.Bytes.{Bracket, class_of}
use Rattle.ir_core.specs.Tokens.{Word, Mark}
use Rattle.ir_core.specs.Text.{is_word}
use Rattle.text_laws.proofs.Rows.{Bare, Lexed, Outer, bare}
use Rattle.text_laws.proofs.Endings.{Ends}
use Rattle.text_laws.proofs.Lexed.{is_brace, line_lexed, mark_lexed, space_lexed, word_lexed}

-- wherever a byte that ends words comes behind it, the text is these tokens
pub record Gives (text : List ℕ) (ls : List Bare) : Type 0 where
  pub before : (d : ℕ) (rest : List ℕ) (ms : List Bare) → Ends rest → Lexed d rest ms → Lexed d (text ++ rest) (ls ++ ms)

abbrev pub comma : Bare
comma = bare (Mark 44) (44 ∷ [])

-- a comma and the space behind it
pub comma_lexed : (d : ℕ) (rest : List ℕ) (ls : List Bare) → Lexed d rest ls → Lexed d (44 ∷ 32 ∷ rest) (comma ∷ ls)
comma_lexed d rest ls r = mark_lexed d 44 (32 ∷ rest) ls refl refl (space_lexed d rest ls r)

-- ---- texts one behind the other

-- whatever comes behind it, the text is these tokens
pub record Closes (text : List ℕ) (ls : List Bare) : Type 0 where
  pub before : (d : ℕ) (rest : List ℕ) (ms : List Bare) → Lexed d rest ms → Lexed d (text ++ rest) (ls ++ ms)

-- so it is inside braces, where line ends may stand in it
pub record Inner (text : List ℕ) (ls : List Bare) : Type 0 where
  pub before : (d : ℕ) (rest : List ℕ) (ms : List Bare) → Lexed (d + 1) rest ms → Lexed (d + 1) (text ++ rest) (ls ++ ms)

-- so it is where no brace is open, at the front of a line
pub record OnLines (text : List ℕ) (ls : List Bare) : Type 0 where
  pub before : (rest : List ℕ) (ms : List Bare) → Outer rest ms → Outer (text ++ rest) (ls ++ ms)

-- two texts and what comes behind them
pub regroup : (d : ℕ) (a b rest : List ℕ) (la lb ms : List Bare) → Lexed d (a ++ (b ++ rest)) (la ++ (lb ++ ms)) → Lexed d ((a ++ b) ++ rest) ((la ++ lb) ++ ms)
regroup d a b rest la lb ms r = subst (λ t. Lexed d t ((la ++ lb) ++ ms)) (sym (append_assoc a b rest)) (subst (Lexed d (a ++ (b ++ rest))) (sym (append_assoc la lb ms)) r)

pub regroup_outer : (a b rest : List ℕ) (la lb ms : List Bare) → Outer (a ++ (b ++ rest)) (la ++ (lb ++ ms)) → Outer ((a ++ b) ++ rest) ((la ++ lb) ++ ms)
regroup_outer a b rest la lb ms r = subst (λ t. Outer t ((la ++ lb) ++ ms)) (sym (append_assoc a b rest)) (subst (Outer (a ++ (b ++ rest))) (sym (append_assoc la lb ms)) r)

pub inner_as : {a : List ℕ} {ls ms : List Bare} → ls ≡ ms → Inner a ls → Inner a ms
inner_as {a} e x = subst (Inner a) e x

-- no text
pub gives_none : Gives [] []
gives_none = record { before = λ d rest ms e r. r }

pub gives_of : {a : List ℕ} {la : List Bare} → Closes a la → Gives a la
gives_of x = record { before = λ d rest ms e r. x.before d rest ms r }

-- a text behind one that must be ended
pub gives_then : {a b : List ℕ} {la lb : List Bare} → Gives a la → Gives b lb → ((rest : List ℕ) → Ends rest → Ends (b ++ rest)) → Gives (a ++ b) (la ++ lb)
gives_then {a} {b} {la} {lb} x y s = record { before = λ d rest ms e r. regroup d a b rest la lb ms (x.before d (b ++ rest) (lb ++ ms) (s rest e) (y.before d rest ms e r)) }

-- the same, where what comes behind both does not matter
pub gives_closes : {a b : List ℕ} {la lb : List Bare} → Gives a la → Closes b lb → ((rest : List ℕ) → Ends (b ++ rest)) → Closes (a ++ b) (la ++ lb)
gives_closes {a} {b} {la} {lb} x y s = record { before = λ d rest ms r. regroup d a b rest la lb ms (x.before d (b ++ rest) (lb ++ ms) (s rest) (y.before d rest ms r)) }

pub gives_inner : {a b : List ℕ} {la lb : List Bare} → Gives a la → Inner b lb → ((rest : List ℕ) → Ends (b ++ rest)) → Inner (a ++ b) (la ++ lb)
gives_inner {a} {b} {la} {lb} x y s = record { before = λ d rest ms r. regroup (d + 1) a b rest la lb ms (x.before (d + 1) (b ++ rest) (lb ++ ms) (s rest) (y.before d rest ms r)) }

-- a text behind one that needs no end
pub closes_gives : {a b : List ℕ} {la lb : List Bare} → Closes a la → Gives b lb → Gives (a ++ b) (la ++ lb)
closes_gives {a} {b} {la} {lb} x y = record { before = λ d rest ms e r. regroup d a b rest la lb ms (x.before d (b ++ rest) (lb ++ ms) (y.before d rest ms e r)) }

pub closes_then : {a b : List ℕ} {la lb : List Bare} → Closes a la → Closes b lb → Closes (a ++ b) (la ++ lb)
closes_then {a} {b} {la} {lb} x y = record { before = λ d rest ms r. regroup d a b rest la lb ms (x.before d (b ++ rest) (lb ++ ms) (y.before d rest ms r)) }

-- inside braces
pub inner_of : {a : List ℕ} {la : List Bare} → Closes a la → Inner a la
inner_of x = record { before = λ d rest ms r. x.before (d + 1) rest ms r }

pub inner_then : {a b : List ℕ} {la lb : List Bare} → Inner a la → Inner b lb → Inner (a ++ b) (la ++ lb)
inner_then {a} {b} {la} {lb} x y = record { before = λ d rest ms r. regroup (d + 1) a b rest la lb ms (x.before d (b ++ rest) (lb ++ ms) (y.before d rest ms r)) }

pub inner_line : Inner (codes "\n") []
inner_line = record { before = λ d rest ms r. line_lexed d rest ms r }

-- a space, a comma, a mark, and a word with its space
pub closes_space : Closes (codes " ") []
closes_space = record { before = λ d rest ms r. space_lexed d rest ms r }

pub closes_comma : Closes (codes ", ") (comma ∷ [])
closes_comma = record { before = λ d rest ms r. comma_lexed d rest ms r }

pub closes_mark : (m : ℕ) → class_of m ≡ Bracket → is_brace m ≡ false → Closes (m ∷ []) (bare (Mark m) (m ∷ []) ∷ [])
closes_mark m e n = record { before = λ d rest ms r. mark_lexed d m rest ms e n r }

pub gives_word : (w : List ℕ) → is_word w ≡ true → Gives w (bare Word w ∷ [])
gives_word w h = record { before = λ d rest ms e r. word_lexed d w rest ms h e r }

pub closes_word : (w : List ℕ) → is_word w ≡ true → Closes (w ++ codes " ") (bare Word w ∷ [])
closes_word w h = gives_closes (gives_word w h) closes_space (λ rest. refl)
