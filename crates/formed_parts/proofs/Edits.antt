-- Parts stay as they must be where each instruction is replaced by one that may stand where it stood.
use Rattle.std.proofs.Common.{List, [], ◌∷◌, map, refl, sym, ap, ◌∙◌}
use Rattle.std.proofs.lemmas.List.{map-append}
use Rattle.std.proofs.lemmas.List.Elements.{All-map}
use Rattle.ir_core.specs.declared.instructions.Inst.{Inst}
use Rattle.ir_core.specs.declared.module.Module.{Module}
use Rattle.ir_core.specs.declared.module.Function.{Function}
use Rattle.ir_core.specs.declared.module.Block.{Block}
use Rattle.text_laws.specs.Parts.{FormedInst, FormedInsts, FormedBlock, FormedFunction, FormedParts}
use Rattle.text_laws.proofs.Lines.{none_same}
use Rattle.formed_parts.specs.Edits.{block_edited, function_edited, module_edited, KeepsInsts}

pub insts_edited : (edit : Inst → Inst) → KeepsInsts edit → (is : List Inst) → FormedInsts is → FormedInsts (map edit is)
insts_edited edit k is p = record {
  front = map edit p.front;
  end = edit p.end;
  whole = ap (map edit) p.whole ∙ map-append edit p.front (p.end ∷ []);
  plain = All-map FormedInst edit p.front (λ n d l. k.plain _ (p.plain n d l));
  last = k.last p.end p.last;
}

pub block_keeps : (edit : Inst → Inst) → KeepsInsts edit → (b : Block) → FormedBlock b → FormedBlock (block_edited edit b)
block_keeps edit k b p = record { name = p.name; insts = insts_edited edit k b.insts p.insts }

pub function_keeps : (edit : Inst → Inst) → KeepsInsts edit → (f : Function) → FormedFunction f → FormedFunction (function_edited edit f)
function_keeps edit k f p = record {
  words = p.words;
  result = p.result;
  name = p.name;
  params = p.params;
  groups = p.groups;
  blocks = All-map FormedBlock (block_edited edit) f.blocks (λ n d l. block_keeps edit k _ (p.blocks n d l));
  numbered = λ e. p.numbered (none_same (block_edited edit) [] f.blocks (sym e) refl);
}

pub edits_keep_parts : (edit : Inst → Inst) → KeepsInsts edit → (m : Module) → FormedParts m → FormedParts (module_edited edit m)
edits_keep_parts edit k m p = record {
  prelude = p.prelude;
  types = p.types;
  globals = p.globals;
  functions = All-map FormedFunction (function_edited edit) m.functions (λ n d l. function_keeps edit k _ (p.functions n d l));
  tail = p.tail;
}
