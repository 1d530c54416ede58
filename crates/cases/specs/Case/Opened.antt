-- Names that open every definition that a case computes with, room by room: a case says `unfolding opened`.
use Rattle.model.specs.Basics.Tests.{imp, every}
use Rattle.cases.specs.Case.Cases.{item, gone, asking, ask, expect, noted, stand, passes_at, all_pass}
use Rattle.cases.specs.Case.Forms.{all5, counting, forms, made, malformed, none5, reference, right, right_words, one_wrong, strays}
use Rattle.cases.specs.Case.Forms.{well_made, words, wrong, wrong_words}
use Rattle.model.specs.Level.{bit, subset, rank, at_most_over, at_most, drops}
use Rattle.model.specs.List.Listing.{entries, showing}
use Rattle.model.specs.List.Walk.{through, visit, walk}
use Rattle.model.specs.List.Ways.{ways, showable, found}
use Rattle.model.specs.Request.After.{effect, noticed_op, leaves, after}
use Rattle.model.specs.Request.Asked.{asked, has_role}
use Rattle.model.specs.Request.Conditions.{is_any, is_entity, is_container, is_device, is_draft, between, free, unused, a_level, some_roles}
use Rattle.model.specs.Request.Conditions.{a_user, a_sort, a_flag, a_sum, a_who, an_operation, a_position, lacks, create_above, create_no_room}
use Rattle.model.specs.Request.Conditions.{on_screen, delete_forbidden, first_above, move_no_room, move_inside, level_dropped, insecure}
use Rattle.model.specs.Request.Conditions.{grant_no_room, show_above, show_no_room, show_unlabelled, login_taken, user_absent, roles_off}
use Rattle.model.specs.Request.Conditions.{roles_of_another, roles_unauthorised, current_outside, device_above, device_dropped}
use Rattle.model.specs.Request.Conditions.{not_acknowledged}
use Rattle.model.specs.Request.Ladder.{of_op, some_operand, not_well_formed, not_secure, unknown_user, length_fits, names_fit, range_at, fits}
use Rattle.model.specs.Request.Ladder.{not_understood, not_logged_on, leads_nowhere, permits, no_access, bars, not_cleared, wrong_kind}
use Rattle.model.specs.Request.Ladder.{refused, own_rung, ladder, lowest, answer, never, rung_at, applies}
use Rattle.model.specs.Request.Operations.{operations, with_number, op_of}
use Rattle.model.specs.Request.Reference.{present_test, place_test, follow, resolve, passed, basis}
use Rattle.model.specs.Request.Words.{reference_at, request_of, names}
use Rattle.model.specs.State.Check.{in_test, spot_of, parent, contents_test, one_test, loop_test, device_test, alone_test, idle_test}
use Rattle.model.specs.State.Check.{links_test, well_formed_test, contained_test, seen_test, labelled_test, roles_test, ceiling_test}
use Rattle.model.specs.State.Check.{secure_test, judge, check}
use Rattle.model.specs.State.Climb.{up, climb}
use Rattle.model.specs.State.Secure.{labelled}
use Rattle.model.specs.State.Tests.{packed_test, shape_test, filled_test, triple_test, access_test, none_test, entity_test, notice_test}
use Rattle.model.specs.State.Tests.{nobody_test, user_test}
use Rattle.model.specs.Tables.Layout.{tables_of}
use Rattle.model.specs.Tables.Rows.{seek}
use Rattle.model.specs.Tables.Sheet.{sheet_tables, padded, padded_records, sheet_words}

unfoldable pub opened_basics : Unit {0}
unfolding imp every
opened_basics = tt

unfoldable pub opened_level : Unit {0}
unfolding bit subset rank at_most_over at_most drops
opened_level = tt

unfoldable pub opened_tables : Unit {0}
unfolding tables_of seek sheet_tables padded padded_records sheet_words
opened_tables = tt

unfoldable pub opened_state : Unit {0}
unfolding in_test spot_of parent contents_test one_test loop_test device_test alone_test idle_test links_test well_formed_test contained_test seen_test
    labelled_test roles_test ceiling_test secure_test judge check up climb labelled packed_test shape_test filled_test triple_test access_test
    none_test entity_test notice_test nobody_test user_test
opened_state = tt

unfoldable pub opened_request : Unit {0}
unfolding effect noticed_op leaves after asked has_role is_any is_entity is_container is_device is_draft between free unused a_level some_roles a_user
    a_sort a_flag a_sum a_who an_operation a_position lacks create_above create_no_room on_screen delete_forbidden first_above move_no_room move_inside
    level_dropped insecure grant_no_room show_above show_no_room show_unlabelled login_taken user_absent roles_off roles_of_another roles_unauthorised
    current_outside device_above device_dropped not_acknowledged of_op some_operand not_well_formed not_secure unknown_user length_fits names_fit
    range_at fits not_understood not_logged_on leads_nowhere permits no_access bars not_cleared wrong_kind refused own_rung ladder lowest answer
    never rung_at applies operations with_number op_of present_test place_test follow resolve passed basis reference_at request_of names
opened_request = tt

unfoldable pub opened_case : Unit {0}
unfolding item gone asking ask expect noted stand passes_at all_pass
opened_case = tt

unfoldable pub opened : Unit {0}
unfolding opened_basics opened_level opened_tables opened_state opened_request opened_case
opened = tt

-- the same for a case of the list
unfoldable pub opened_list : Unit {0}
unfolding opened entries showing through visit walk ways showable found
opened_list = tt

-- and for a case of the forms
unfoldable pub opened_forms : Unit {0}
unfolding opened forms right wrong counting reference strays right_words wrong_words words made one_wrong well_made malformed all5 none5
opened_forms = tt
