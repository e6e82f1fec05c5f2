use Rattle.std.proofs.Common.{arith}
use Rattle.std.proofs.lemmas.List.{take_min}
use Rattle.byte_ports.proofs.shelf.MemoryShelfShelf.fetch.Goals as goal

pub returns-in_ok-from_slice-in-Some-clause-bytes :
    goal.returns-in_ok-from_slice-in-Some-clause-bytes
returns-in_ok-from_slice-in-Some-clause-bytes c = λ all e. grind (arith, take_min)
