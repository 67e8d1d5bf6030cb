-- Instructions and blocks: none of their tokens stands for bytes behind the limit of a text.
use Rattle.std.proofs.Common.{ℕ, List}
use Rattle.ir_core.specs.Instructions.{assigned, PlainForm, Assigns, Stores, Fences, Calls, TailCalls, plain_form, plain, case, BranchForm, Straight, Tested, branch_form, switched, returned, LastForm, Branches, Switches, Returns, Stops, last_form, last, body_of, block}
use Rattle.formed_laws.proofs.Within.{Within, within_any, within_either, within_laws}
use Rattle.formed_laws.proofs.FormsWithin.{within_forms}
use Rattle.formed_laws.proofs.KindsWithin.{within_attachments, within_valued, within_called, within_call, within_stored, within_fenced}

-- ---- instructions that end no block

within_assigned : Within assigned
within_assigned = within_either within_valued within_call

within_plain_form : (form : PlainForm) → Within (plain_form form)
within_plain_form Assigns = search (within_laws, within_assigned)
within_plain_form Stores = search (within_laws, within_stored)
within_plain_form Fences = search (within_laws, within_fenced)
within_plain_form Calls = search (within_laws, within_called)
within_plain_form TailCalls = search (within_laws, within_called)

within_plain : Within plain
within_plain = search (within_laws, within_plain_form, within_attachments)

-- ---- instructions that end a block

within_case : Within case
within_case = search (within_laws, within_forms)

within_branch_form : (form : BranchForm) → Within (branch_form form)
within_branch_form Straight = search (within_laws, within_forms)
within_branch_form Tested = search (within_laws, within_forms)

within_switched : Within switched
within_switched = search (within_laws, within_forms, within_case) depth 20

within_returned : Within returned
within_returned = within_either (search within_laws) (search (within_laws, within_forms))

within_last_form : (form : LastForm) → Within (last_form form)
within_last_form Branches = within_any within_branch_form
within_last_form Switches = within_switched
within_last_form Returns = within_returned
within_last_form Stops = search within_laws

within_last : Within last
within_last = search (within_laws, within_last_form, within_attachments)

-- ---- blocks

pub within_body : (label : List ℕ × ℕ) → Within (body_of label)
within_body label = search (within_laws, within_plain, within_last)

pub within_block : Within block
within_block = search (within_laws, within_body)
