-- What a base stands for.
use Rattle.cell_heap.specs.declared.base.Base.{Base}
use Rattle.cell_heap.specs.Slots.{heap_from}
use Rattle.cell_places.specs.Heap.{Heap}

abbrev pub heap_of : Base → Heap
heap_of b = heap_from b.slots b.kinds.items b.spent b.limit
