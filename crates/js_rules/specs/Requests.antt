-- Requests of the page (this project's own): the functions of `net`.
use Rattle.std.specs.Prelude.{ℕ, List, [], codes}
use Rattle.page_units.specs.declared.value.Value.{Value}
use Rattle.page_units.specs.declared.event.Verb.{Verb}
use Rattle.page_units.specs.declared.event.Verb.TheVariants as verb
use Rattle.cell_places.specs.Outward.{request}
use Rattle.js_rules.specs.Fixed.{Fixed, Resolved, url, bad_url, cross_origin}
use Rattle.js_rules.specs.Arguments.{arg, text_in}
use Rattle.js_rules.specs.ListItems.{undefined}
use Rattle.js_rules.specs.NodeFunctions.{on_cell}
use Rattle.js_rules.specs.Tasks.{Outcomes, NeedFunction}
use Rattle.js_rules.specs.Prog.{Prog, ◌>>◌, charge, write, part, type_error}

-- a request to an address, with the function that gets its answer
abbrev pub request_to : Verb → List ℕ → Value → Resolved → Prog Outcomes
request_to what body f bad_url = type_error (codes "BadUrl")
request_to what body f cross_origin = type_error (codes "CrossOrigin")
request_to what body f (url address) = do
  part (NeedFunction f)
  charge 1
  on_cell f λ g.
      write (request (record { verb = what; url = address; body = body; callback = g })) >> undefined

-- net.get
abbrev pub net_get : Fixed → List Value → Prog Outcomes
net_get fixed args = request_to verb.Get [] (arg 1 args) (fixed.resolve (text_in (arg 0 args)))

-- net.post
abbrev pub net_post : Fixed → List Value → Prog Outcomes
net_post fixed args =
    request_to verb.Post (text_in (arg 1 args)) (arg 2 args) (fixed.resolve (text_in (arg 0 args)))
