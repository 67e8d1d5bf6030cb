-- A memory as stored data.
use Rattle.std.specs.Prelude.{ℕ, Bool, refl}
use Rattle.std.specs.Coded.{Coded, code_by, coded×, coded_ℕ, coded_bool}
use Rattle.std.specs.FinMap as fin
use Rattle.std.specs.FinMap.{FinMap}
use Rattle.mem_model.specs.contracts.memory.BlockName as name
use Rattle.mem_model.specs.contracts.memory.Byte as byte
use Rattle.mem_model.specs.declared.memory.Byte.{Byte}
use Rattle.mem_model.specs.Blocks.{block_cmp, place_cmp}
use Rattle.mem_model.specs.Memory.{Memory, Header}

abbrev pub header_code : Coded Header
header_code = code_by (ℕ × (Bool × Bool)) (coded× coded_ℕ (coded× coded_bool coded_bool)) (λ h. (h.size, (h.constant, h.released))) (λ p. record { size = p.0; constant = p.1.0; released = p.1.1 }) (λ _. refl)

abbrev pub memory_code : Coded Memory
memory_code =
    code_by (FinMap block_cmp Header × FinMap place_cmp Byte) (coded× (fin.code name.the_row.coded header_code) (fin.code (coded× name.the_row.coded coded_ℕ) byte.the_row.coded)) (λ m. (m.blocks, m.bytes)) (λ p. record { blocks = p.0; bytes = p.1 }) (λ _. refl)
